-- How long chains are. Assumes nothing.
use mathlib.Core.Path.{refl, ap}
use mathlib.Core.List.{List, [], ◌∷◌}
use Prim.Native.Nat.{ℕ, zero, suc, ◌≤◌, ◌<◌}
use native.Mathlib.Omega.{arith}
use lib.ListN.{length}
use Rattle.tree.specs.Chain.{Tree, LiveIn, child, Chain}
use Rattle.tree.specs.Rules.{Deep}

module _ (t : Tree) where
  -- a chain from a live child is one place longer from its parent
  pub deeper : (n a j : ℕ) → j < t.count a → LiveIn t (child t a j) → Deep t n (child t a j) → Deep t (suc n) a
  unfolding Chain
  deeper n a j l h d = (j ∷ d.0, d.1, ap suc d.2, (l, (h, d.3)))

  pub none_deep : (a : ℕ) → Deep t 0 a
  unfolding Chain
  none_deep a = ([], a, refl, refl)

  -- where no chain has more than n places, a chain has at most n
  pub no_longer : (n a : ℕ) (ps : List ℕ) (e : ℕ) → (Deep t (suc n) a → ⊥) → Chain t ps a e → length ps ≤ n
  unfolding Chain
  no_longer n a [] e f c = omega arith
  no_longer zero a (j ∷ ps) e f c = absurd (f (deeper 0 a j c.0 c.1.0 (none_deep (child t a j))))
  no_longer (suc n) a (j ∷ ps) e f c = omega (arith, no_longer n (child t a j) ps e (λ d. f (deeper (suc n) a j c.0 c.1.0 d)) c.1.1)
