use Rattle.strings.specs.inner.Lent.{lent_table}
use Rattle.search.proofs.Runs.{Read}
use Rattle.search.proofs.run.run_has.Given as goal

abbrev pub invariant-loop-j : goal.invariant-loop-j
invariant-loop-j l = Read (lent_table l.table) l.k l.h l.field l.w l.n l.j
