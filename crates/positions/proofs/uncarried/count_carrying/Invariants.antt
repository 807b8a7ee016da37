use Rattle.strings.specs.inner.Lent.{lent_table}
use Rattle.positions.proofs.CountedBelow.{Summed}
use Rattle.positions.proofs.uncarried.count_carrying.Given as goal

abbrev pub invariant-loop-k : goal.invariant-loop-k
invariant-loop-k l = Summed (lent_table l.table) l.m l.k l.c
