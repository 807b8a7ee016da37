use Prim.Native.Nat.{◌*◌}
use Rattle.text.proofs.Passed.{Passed}
use Rattle.text.proofs.measure.Given as goal

abbrev pub invariant-loop-k : goal.invariant-loop-k
invariant-loop-k l = Passed l.b l.p l.n 0 (4 * l.k) l.h
