-- Chains and document order (FORMAT, "Chains and document order"), over any tree whose nodes are numbers. The root is node 0.
use Rattle.std.specs.Prelude.{◌≡◌, cond, ◌⊎◌, ℕ, zero, suc, ◌+◌, ◌-◌, ◌<◌, eqb}
use mathlib.Core.List.{List, [], ◌∷◌, ◌++◌, Memᴰ}

-- A chain has at most 64 nodes, one on each level. The root is on level 0.
abbrev pub most_levels : ℕ
most_levels = 64

-- So no node is on a level below this one.
abbrev pub deepest_level : ℕ
deepest_level = most_levels - 1

-- A node's name index, 0 where it is nameless; its child range is `count` elements from `first` on.
pub record Tree : Type 0 where
  pub name : ℕ → ℕ
  pub first : ℕ → ℕ
  pub count : ℕ → ℕ

-- A node is live if it is not nameless.
abbrev pub LiveIn : Tree → ℕ → Type 0
LiveIn t a = t.name a ≡ 0 → ⊥

-- The element at child place j of node a.
abbrev pub child : Tree → ℕ → ℕ → ℕ
child t a j = t.first a + j

-- The child places ps lead from node a to node e (a chain, where a is the root, which is live by 16): each is a place in the child range of the node before, and the element there is live.
unfoldable pub Chain : Tree → List ℕ → ℕ → ℕ → Type 0
Chain t [] a e = e ≡ a
Chain t (j ∷ ps) a e = (j < t.count a) × (LiveIn t (child t a j) × Chain t ps (child t a j) e)

-- Document order compares two chains by child places, left to right, a chain before its continuations.
unfoldable pub Before : List ℕ → List ℕ → Type 0
Before [] [] = ⊥
Before [] (q ∷ qs) = Unit
Before (p ∷ ps) [] = ⊥
Before (p ∷ ps) (q ∷ qs) = (p < q) ⊎ ((p ≡ q) × Before ps qs)

-- f a ++ f (a + 1) ++ .., n of them.
unfoldable pub ranged : (ℕ → List ℕ) → ℕ → ℕ → List ℕ
ranged f a zero = []
ranged f a (suc n) = f a ++ ranged f (a + 1) n

-- The ends of the chains of n places from node a, one after the other in document order.
unfoldable pub ends : Tree → ℕ → ℕ → List ℕ
ends t zero a = a ∷ []
ends t (suc n) a = ranged (λ c. cond (eqb (t.name c) 0) [] (ends t n c)) (t.first a) (t.count a)

-- Of any two elements of a list the earlier stands in R to the later.
unfoldable pub Pairs : (ℕ → ℕ → Type 0) → List ℕ → Type 0
Pairs R [] = Unit
Pairs R (a ∷ l) = ((b : ℕ) → Memᴰ b l → R a b) × Pairs R l

-- The first of a list, or another.
unfoldable pub first_or : ℕ → List ℕ → ℕ
first_or d [] = d
first_or d (a ∷ l) = a
