use Rattle.strings.specs.inner.Lent.{lent_table}
use Rattle.search.specs.inner.Group.{AllNear}
use Rattle.search.proofs.pending.find_all.Given as goal

abbrev pub invariant-loop-j : goal.invariant-loop-j
invariant-loop-j l = AllNear (lent_table l.table) l.hashes l.j l.low
