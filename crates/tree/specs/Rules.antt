-- The rules of the tree, by their numbers (FORMAT, "Refusals").
use Rattle.std.specs.Prelude.{ℕ, ◌≤◌, ◌<◌, ◌≡◌, List, length}
use Rattle.layout.specs.declared.Edition.{Edition}
use Rattle.tree.specs.Chain.{Tree, child, Chain, Before, most_levels}
use Rattle.tree.specs.File.{Used, tree_of, used_node_count}

-- 21 of node a: its child range holds neither the root nor an element of an earlier node's range. The numbers of nodes go by file order.
pub record RangeRule (ed : Edition) (b : List ℕ) (a : ℕ) : Type 0 where
  pub rootless : (j : ℕ) → j < (tree_of ed b).count a → child (tree_of ed b) a j ≡ 0 → ⊥
  pub fresh : (c : ℕ) → c < a → Used ed b c → (j : ℕ) → j < (tree_of ed b).count a → (k : ℕ) → k < (tree_of ed b).count c
      → child (tree_of ed b) a j ≡ child (tree_of ed b) c k → ⊥

-- A chain of n places leads on from node a.
abbrev pub Deep : Tree → ℕ → ℕ → Type 0
Deep t n a = (ps : List ℕ) × (e : ℕ) × (length ps ≡ n) × Chain t ps a e

-- A chain of n places leads from node a to node e, and no chain of n places from a is before it in document order.
pub record FirstDeep (t : Tree) (n a e : ℕ) : Type 0 where
  pub places : List ℕ
  pub long : length places ≡ n
  pub chain : Chain t places a e
  pub first : (qs : List ℕ) (d : ℕ) → length qs ≡ n → Chain t qs a d → Before qs places → ⊥

-- 22: no chain has 65 nodes, so none from the root has 64 places.
abbrev pub DepthRule : Edition → List ℕ → Type 0
DepthRule ed b = Deep (tree_of ed b) most_levels 0 → ⊥

-- 20 to 22 hold of the file, with a workspace of so many bytes: it has a byte for each used node.
pub record TreeRules (ed : Edition) (b : List ℕ) (bytes : ℕ) : Type 0 where
  pub room : used_node_count ed b ≤ bytes
  pub ranges : (a : ℕ) → Used ed b a → RangeRule ed b a
  pub depth : DepthRule ed b
