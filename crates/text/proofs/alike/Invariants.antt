use Prim.Native.Nat.{◌*◌}
use Rattle.text.proofs.OneByOne.{Alike}
use Rattle.text.proofs.alike.Given as goal

abbrev pub invariant-loop-k : goal.invariant-loop-k
invariant-loop-k l = Alike l.b l.p l.s l.q (4 * l.k)
