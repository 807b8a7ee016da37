use Rattle.strings.specs.inner.Lent.{lent_table}
use Rattle.positions.proofs.CountedBelow.{Counted}
use Rattle.positions.proofs.uncarried.count_carrying_in.Given as goal

abbrev pub invariant-loop-j : goal.invariant-loop-j
invariant-loop-j l = Counted (lent_table l.table) l.m l.k l.j l.c
