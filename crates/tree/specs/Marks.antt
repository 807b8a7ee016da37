-- What acceptance leaves in the workspace (FORMAT, "Workspace").
use Rattle.std.specs.Prelude.{ℕ, ◌≡◌, List, [], ◌∷◌, ◌++◌, drop, replicate}
use Rattle.std.proofs.Math.Decide.{ℕ_discrete}
use Rattle.verdict.specs.Checks.{SomeBelow}
use Rattle.verdict.specs.Decide.{some_below?}
use Rattle.region.specs.Region.{count_of, used_of, all_used}
use Rattle.layout.specs.Edition.{node_size}
use Rattle.layout.specs.Layout.{nodes_at}
use Rattle.layout.specs.declared.Edition.{Edition}
use Rattle.tree.specs.Chain.{Tree, child}
use Rattle.tree.specs.File.{address, tree_of, used_node_count}

-- Node c is in node a's child range.
abbrev pub InRange : Tree → ℕ → ℕ → Type 0
InRange t a c = SomeBelow (t.count a) (λ j. child t a j ≡ c)

-- Node c is in some live node's child range. It is enough to look at used nodes: a nameless node's child count is 0.
abbrev pub IsChild : Edition → List ℕ → ℕ → Type 0
IsChild ed b c =
    SomeBelow (count_of b (nodes_at ed b)) (λ s. SomeBelow (used_of (node_size ed) b (nodes_at ed b) s) (λ e. InRange (tree_of ed b) (address s e) c))

unfoldable pub is_child? : (ed : Edition) (b : List ℕ) (c : ℕ) → Dec (IsChild ed b c)
is_child? ed b c =
    some_below? (count_of b (nodes_at ed b)) (λ s. some_below? (used_of (node_size ed) b (nodes_at ed b) s) (λ e.
    some_below? ((tree_of ed b).count (address s e)) (λ j. ℕ_discrete (child (tree_of ed b) (address s e) j) c)))

-- 1 where it is so, else 0.
unfoldable pub mark_by : {P : Type 0} → Dec P → ℕ
mark_by (yes p) = 1
mark_by (no f) = 0

-- The marks of some nodes.
unfoldable pub marks_of : Edition → List ℕ → List ℕ → List ℕ
marks_of ed b [] = []
marks_of ed b (a ∷ l) = mark_by (is_child? ed b a) ∷ marks_of ed b l

-- A workspace with its first U bytes 0, and with the marks of the used nodes in file order; bytes past U stay.
unfoldable pub cleared : Edition → List ℕ → List ℕ → List ℕ
cleared ed b ws = replicate (used_node_count ed b) 0 ++ drop (used_node_count ed b) ws

unfoldable pub marked : Edition → List ℕ → List ℕ → List ℕ
marked ed b ws = marks_of ed b (all_used (node_size ed) b (nodes_at ed b)) ++ drop (used_node_count ed b) ws
