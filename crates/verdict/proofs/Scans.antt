-- Rows of checks that end a list, as a scan along them finds them. Assumes nothing.
use Prim.Native.Nat.{ℕ, ◌+◌, ◌-◌, ◌<◌}
use native.Mathlib.Omega.{arith}
use mathlib.Core.Path.{◌≡◌, ap, ◌∙◌}
use mathlib.Core.List.{List}
use Rattle.verdict.specs.Checks.{Check, first_fault, each}
use Rattle.verdict.specs.Verdict.{Refused}
use Rattle.verdict.proofs.Laws.{Clean, fault_append, fault_keep, fault_none, each_step, each_none}

module _ (f : ℕ → List Check) where
  pub each_more : (n m i : ℕ) → n ≡ m + 1 → Clean (f i) → first_fault (each f n i) ≡ first_fault (each f m (i + 1))
  each_more n m i h e = ap first_fault (each_step f n m i h) ∙ fault_append (f i) (each f m (i + 1)) e

  pub each_stop : (n i : ℕ) {a b : ℕ} → 0 < n → first_fault (f i) ≡ Refused a b → first_fault (each f n i) ≡ Refused a b
  each_stop n i h e = ap first_fault (each_step f n (n - 1) i (omega arith)) ∙ fault_keep (f i) (each f (n - 1) (i + 1)) e

  pub each_end : (n i : ℕ) → n ≡ 0 → Clean (each f n i)
  each_end n i h = ap first_fault (each_none f n i h) ∙ fault_none

pub row_same : (f : ℕ → List Check) (n m i : ℕ) → n ≡ m → first_fault (each f n i) ≡ first_fault (each f m i)
row_same f n m i h = ap (λ (x : ℕ). first_fault (each f x i)) h
