use Rattle.text.proofs.Passed.{Passed}
use Rattle.text.proofs.measure_few.Given as goal

abbrev pub invariant-loop-i : goal.invariant-loop-i
invariant-loop-i l = Passed l.b l.p l.n l.h l.i l.g
