use Rattle.text.proofs.OneByOne.{Alike}
use Rattle.text.proofs.alike_few.Given as goal

abbrev pub invariant-loop-i : goal.invariant-loop-i
invariant-loop-i l = Alike l.b l.p l.s l.q l.i
