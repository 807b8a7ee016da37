use Rattle.strings.specs.inner.Lent.{lent_table}
use Rattle.strings.proofs.Differing.{left, Meeting}
use Rattle.strings.proofs.apart.met.Given as goal

abbrev pub invariant-loop-next : goal.invariant-loop-next
invariant-loop-next l = Meeting (lent_table l.table) l.k l.from l.n l.j l.x l.map l.next

abbrev pub decreases-loop-next : goal.decreases-loop-next
decreases-loop-next l = left l.next
