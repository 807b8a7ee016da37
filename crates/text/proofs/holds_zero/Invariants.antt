use Prim.Native.Nat.{ℕ, ◌*◌, ◌<◌}
use mathlib.Core.Path.{◌≡◌}
use Rattle.le.specs.Le.{u16_at}
use Rattle.text.proofs.holds_zero.Given as goal

abbrev pub invariant-loop-i : goal.invariant-loop-i
invariant-loop-i l = (j : ℕ) → j < l.i → u16_at l.s (2 * j) ≡ 0 → ⊥
