use Rattle.multimap.proofs.Laws.{Sought}
use Rattle.multimap.proofs.seek.Given as goal

abbrev pub invariant-loop-i : goal.invariant-loop-i
invariant-loop-i l = Sought l.map l.m l.x l.at

abbrev pub decreases-loop-i : goal.decreases-loop-i
decreases-loop-i l = l.at
