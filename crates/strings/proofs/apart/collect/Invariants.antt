use Rattle.strings.specs.inner.Lent.{lent_table}
use Rattle.strings.proofs.Differing.{Collecting}
use Rattle.strings.proofs.apart.collect.Given as goal

abbrev pub invariant-loop-n : goal.invariant-loop-n
invariant-loop-n l = Collecting (lent_table l.table) l.k l.from l.n l.most l.map
