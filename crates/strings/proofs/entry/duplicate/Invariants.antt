use Rattle.strings.specs.inner.Lent.{lent_table}
use Rattle.strings.proofs.Runs.{Alone}
use Rattle.strings.proofs.entry.duplicate.Given as goal

abbrev pub invariant-loop-i : goal.invariant-loop-i
invariant-loop-i l = Alone (lent_table l.table) l.k l.j l.i
