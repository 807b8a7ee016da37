-- The matches of a path (FORMAT, "Questions"; demand 3), defined by chains and the names that they bear.
use Rattle.std.specs.Prelude.{ℕ, ◌<◌, ◌≡◌}
use mathlib.Core.List.{List, [], ◌∷◌, Memᴰ}
use Rattle.tree.specs.Chain.{Tree, LiveIn, child, Chain, Before, Pairs}

-- The child places ps lead from node a to node e, and the nodes below a bear the names xs, in order. `text` gives the text of a name index.
unfoldable pub BearingChain : Tree → (ℕ → List ℕ) → List (List ℕ) → List ℕ → ℕ → ℕ → Type 0
BearingChain t text [] [] a e = e ≡ a
BearingChain t text [] (j ∷ ps) a e = ⊥
BearingChain t text (x ∷ xs) [] a e = ⊥
BearingChain t text (x ∷ xs) (j ∷ ps) a e =
    (j < t.count a) × (LiveIn t (child t a j) × ((text (t.name (child t a j)) ≡ x) × BearingChain t text xs ps (child t a j) e))

-- A match is the last node of a chain from the root that bears exactly the path's names.
abbrev pub Match : Tree → (ℕ → List ℕ) → List (List ℕ) → ℕ → Type 0
Match t text xs e = (ps : List ℕ) × BearingChain t text xs ps 0 e

-- Node a is before node b in document order: chains from the root lead to them, and that of a is before that of b. (On an accepted
-- file no node has two chains.)
abbrev pub DocumentBefore : Tree → ℕ → ℕ → Type 0
DocumentBefore t a b = (ps : List ℕ) × (qs : List ℕ) × Chain t ps 0 a × Chain t qs 0 b × Before ps qs

-- l lists the matches: each match, no other node, each once, in document order.
pub record Listed (t : Tree) (text : ℕ → List ℕ) (xs : List (List ℕ)) (l : List ℕ) : Type 0 where
  pub sound : (e : ℕ) → Memᴰ e l → Match t text xs e
  pub complete : (e : ℕ) → Match t text xs e → Memᴰ e l
  pub once : Pairs (λ a b. a ≡ b → ⊥) l
  pub ordered : Pairs (DocumentBefore t) l
