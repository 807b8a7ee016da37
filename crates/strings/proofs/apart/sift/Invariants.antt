use Rattle.strings.specs.inner.Lent.{lent_table}
use Rattle.strings.specs.inner.Apart.{Clear}
use Rattle.strings.proofs.apart.sift.Given as goal

abbrev pub invariant-loop-j : goal.invariant-loop-j
invariant-loop-j l = Clear (lent_table l.table) l.k l.from l.n l.j
