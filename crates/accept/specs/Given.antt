-- What acceptance gives to whoever holds the file: each address that an entry, a list, a node or an attribute names resolves, and the nodes
-- that chains from the root reach form a tree. Nodes that no chain reaches may form loops.
use Rattle.std.specs.Prelude.{ℕ, ◌+◌, ◌≤◌, ◌<◌, ◌≡◌, List, length}
use Rattle.words.specs.Words.{type_of}
use Rattle.region.specs.Region.{Resolves}
use Rattle.layout.specs.Table.{Table, entries, segment_of, element_of, count, listed_segment, listed_element}
use Rattle.layout.specs.Edition.{attribute_size}
use Rattle.layout.specs.Layout.{attributes_at, values, names}
use Rattle.layout.specs.declared.Edition.{Edition}
use Rattle.nodes.specs.Node.{node_name, attribute_segment, attribute_element, attribute_count, attribute_at, Live}
use Rattle.nodes.specs.Attribute.{attribute_name, type_word, text_segment, text_element}
use Rattle.tree.specs.Chain.{child, Chain, deepest_level}
use Rattle.tree.specs.File.{Used, node_of, tree_of}

-- An address of a string table resolves, so there is a text at it.
abbrev pub HasText : Table → ℕ → ℕ → Type 0
HasText t seg el = Resolves 2 t.bytes t.at seg el

-- So does that of list position i.
abbrev pub HasListed : Table → ℕ → Type 0
HasListed t i = HasText t (listed_segment t i) (listed_element t i)

-- Of a string table: those of every entry and of every list position do.
pub record TableGiven (t : Table) : Type 0 where
  pub entry : (k j : ℕ) → k < t.buckets → j < entries t k → HasText t (segment_of t k j) (element_of t k j)
  pub position : (i : ℕ) → 1 ≤ i → i < count t → HasListed t i

-- Of node a: its attributes are used ones; where it is live, its name has a text; so have the names of its attributes, and their values of type 3.
pub record NodeGiven (ed : Edition) (b : List ℕ) (a : ℕ) : Type 0 where
  pub name : Live b (node_of ed b a) → HasListed (names ed b) (node_name b (node_of ed b a))
  pub attribute : (i : ℕ) → i < attribute_count b (node_of ed b a)
      → Resolves (attribute_size ed) b (attributes_at b) (attribute_segment b (node_of ed b a)) (attribute_element b (node_of ed b a) + i)
  pub attribute-name : (i : ℕ) → i < attribute_count b (node_of ed b a) → HasListed (names ed b) (attribute_name b (attribute_at ed b (node_of ed b a) i))
  pub text : (i : ℕ) → i < attribute_count b (node_of ed b a) → type_of (type_word b (attribute_at ed b (node_of ed b a) i)) ≡ 3
      → HasText (values ed b) (text_segment b (attribute_at ed b (node_of ed b a) i)) (text_element b (attribute_at ed b (node_of ed b a) i))

-- Of the tree: the root is a used node and in no child range; each element of a child range is a used node, and at one place of one range
-- only; no node has two chains; and a chain has at most 64 nodes, so 63 places.
pub record TreeGiven (ed : Edition) (b : List ℕ) : Type 0 where
  pub root : Used ed b 0
  pub child-used : (a j : ℕ) → Used ed b a → j < (tree_of ed b).count a → Used ed b (child (tree_of ed b) a j)
  pub rootless : (a j : ℕ) → Used ed b a → j < (tree_of ed b).count a → child (tree_of ed b) a j ≡ 0 → ⊥
  pub one-range : (a c j k : ℕ) → Used ed b a → Used ed b c → j < (tree_of ed b).count a → k < (tree_of ed b).count c
      → child (tree_of ed b) a j ≡ child (tree_of ed b) c k → (a ≡ c) × (j ≡ k)
  pub one-chain : (ps qs : List ℕ) (e : ℕ) → Chain (tree_of ed b) ps 0 e → Chain (tree_of ed b) qs 0 e → ps ≡ qs
  pub depth : (ps : List ℕ) (e : ℕ) → Chain (tree_of ed b) ps 0 e → length ps ≤ deepest_level

-- All of it.
pub record Given (ed : Edition) (b : List ℕ) : Type 0 where
  pub value-table : TableGiven (values ed b)
  pub name-table : TableGiven (names ed b)
  pub node : (a : ℕ) → Used ed b a → NodeGiven ed b a
  pub tree : TreeGiven ed b
