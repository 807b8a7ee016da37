-- The rules of nodes and attributes, by their numbers (FORMAT, "Refusals").
use Rattle.std.specs.Prelude.{ℕ, ◌-◌, ◌≤◌, ◌<◌, ◌≡◌, ◌⊎◌, List}
use Rattle.words.specs.Words.{flags_of, key_index_of, type_of, extended_of}
use Rattle.hash.specs.Fold.{value_hash}
use Rattle.region.specs.Region.{Resolves, Reaches}
use Rattle.layout.specs.Header.{key_count}
use Rattle.layout.specs.Edition.{attribute_size, node_size}
use Rattle.layout.specs.Layout.{attributes_at, nodes_at, values}
use Rattle.layout.specs.declared.Edition.{Edition}
use Rattle.strings.specs.Texts.{text_to}
use Rattle.strings.specs.Rules.{EntryAddress}
use Rattle.keys.specs.Names.{name_count, root_name, value_name, Bears}
use Rattle.nodes.specs.Node.{node_name, key_word, attribute_field, attribute_segment, attribute_element, child_segment, child_element, Live, attribute_count, child_count, node_at, attribute_at, child_at}
use Rattle.nodes.specs.Attribute.{attribute_name, type_word, text_segment, text_element, Typed}

-- 16: there is a used node 0:0.
abbrev pub RootUsed : Edition → List ℕ → Type 0
RootUsed ed b = Resolves (node_size ed) b (nodes_at ed b) 0 0

-- 16: the root is `__root__` and has no attributes.
pub record RootRule (ed : Edition) (b : List ℕ) (p : ℕ) : Type 0 where
  pub named : Bears ed b (node_name b p) root_name
  pub bare : attribute_field b p ≡ 0

-- 16 of a node: the root keeps the rule above, the name is at most the name count, and where the node is live its flags are at
-- most 1 and its key index is that of a key.
pub record NodeRule (ed : Edition) (b : List ℕ) (seg el : ℕ) : Type 0 where
  pub root : seg ≡ 0 → el ≡ 0 → RootRule ed b (node_at ed b seg el)
  pub name : node_name b (node_at ed b seg el) ≤ name_count ed b
  pub flags : Live b (node_at ed b seg el) → flags_of (key_word b (node_at ed b seg el)) ≤ 1
  pub key : Live b (node_at ed b seg el) → key_index_of (key_word b (node_at ed b seg el)) < key_count b

-- 17: the attribute range of the node at p resolves.
abbrev pub AttributesReach : Edition → List ℕ → ℕ → Type 0
AttributesReach ed b p = Reaches (attribute_size ed) b (attributes_at b) (attribute_segment b p) (attribute_element b p) (attribute_count b p)

-- 18 of attribute i of the node at p: its name is a name index above that of the one before, its type, extended code and truth
-- are right, and `__value__` is only type 3.
pub record AttributeRule (ed : Edition) (b : List ℕ) (p i : ℕ) : Type 0 where
  pub low : 1 ≤ attribute_name b (attribute_at ed b p i)
  pub high : attribute_name b (attribute_at ed b p i) ≤ name_count ed b
  pub above : (i ≡ 0) ⊎ (attribute_name b (attribute_at ed b p (i - 1)) < attribute_name b (attribute_at ed b p i))
  pub typed : Typed b (attribute_at ed b p i)
  pub value : Bears ed b (attribute_name b (attribute_at ed b p i)) value_name → type_of (type_word b (attribute_at ed b p i)) ≡ 3

-- 19: the text of the attribute at q is at a values entry's address, and the extended code is its value hash.
pub record TextRule (ed : Edition) (b : List ℕ) (q : ℕ) : Type 0 where
  pub entry : EntryAddress (values ed b) (text_segment b q) (text_element b q)
  pub hash : extended_of (type_word b q) ≡ value_hash (text_to (values ed b) (text_segment b q) (text_element b q))

abbrev pub TextRight : Edition → List ℕ → ℕ → Type 0
TextRight ed b q = type_of (type_word b q) ≡ 3 → TextRule ed b q

-- 23: the child range of the node at p resolves, and the name indices of its live nodes do not fall.
pub record ChildRule (ed : Edition) (b : List ℕ) (p : ℕ) : Type 0 where
  pub reach : Reaches (node_size ed) b (nodes_at ed b) (child_segment ed b p) (child_element ed b p) (child_count b p)
  pub rising : (j : ℕ) → j < child_count b p → (i : ℕ) → i < j
      → Live b (child_at ed b p i) → Live b (child_at ed b p j) → node_name b (child_at ed b p i) ≤ node_name b (child_at ed b p j)

-- 16 to 19 and 23 of the used node seg:el.
pub record NodeRules (ed : Edition) (b : List ℕ) (seg el : ℕ) : Type 0 where
  pub node : NodeRule ed b seg el
  pub attributes : AttributesReach ed b (node_at ed b seg el)
  pub attribute : (i : ℕ) → i < attribute_count b (node_at ed b seg el) → AttributeRule ed b (node_at ed b seg el) i
  pub text : (i : ℕ) → i < attribute_count b (node_at ed b seg el) → TextRight ed b (attribute_at ed b (node_at ed b seg el) i)
  pub children : ChildRule ed b (node_at ed b seg el)

-- 16 to 19 and 23 hold of the file: there is a used node 0:0, and they hold of every used node.
pub record NodesRules (ed : Edition) (b : List ℕ) : Type 0 where
  pub root : RootUsed ed b
  pub each : (seg el : ℕ) → Resolves (node_size ed) b (nodes_at ed b) seg el → NodeRules ed b seg el
