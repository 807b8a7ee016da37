use Prim.Native.Nat.{◌≤◌}
use mathlib.Core.Path.{◌≡◌}
use Rattle.text.specs.inner.Zeros.{zeros_in}
use Rattle.text.proofs.zeros.Given as goal

abbrev pub invariant-loop-i : goal.invariant-loop-i
invariant-loop-i l = (l.found ≡ zeros_in l.b l.p l.i) × (l.found ≤ l.i)
