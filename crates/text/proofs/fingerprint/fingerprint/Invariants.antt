use Prim.Native.Nat.{◌*◌}
use Rattle.text.proofs.Stirred.{Stirring}
use Rattle.text.proofs.fingerprint.fingerprint.Given as goal

abbrev pub invariant-loop-k : goal.invariant-loop-k
invariant-loop-k l = Stirring l.b l.p l.n (2 * l.k) l.g
