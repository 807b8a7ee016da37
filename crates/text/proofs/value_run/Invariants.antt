use Prim.Native.Nat.{◌*◌}
use Rattle.text.proofs.Passed.{PassedFolded}
use Rattle.text.proofs.value_run.Given as goal

abbrev pub invariant-loop-k : goal.invariant-loop-k
invariant-loop-k l = PassedFolded l.b l.p l.n l.h (4 * l.k) l.g
