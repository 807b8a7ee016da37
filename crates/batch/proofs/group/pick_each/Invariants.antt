use Rattle.strings.specs.inner.Lent.{lent_table}
use Rattle.batch.specs.inner.Groups.{Texts, Picked}
use Rattle.batch.proofs.group.pick_each.Given as goal

abbrev pub invariant-loop-j : goal.invariant-loop-j
invariant-loop-j l = record { texts : Texts l.checked.table.file.now l.j l.picked; picked : Picked l.kind (lent_table l.checked.table) l.lengths l.j l.picked }
