use Rattle.text.proofs.Passed.{PassedFolded}
use Rattle.text.proofs.value_run_few.Given as goal

abbrev pub invariant-loop-i : goal.invariant-loop-i
invariant-loop-i l = PassedFolded l.b l.p l.n l.h l.i l.g
