use Rattle.strings.specs.inner.Lent.{lent_table}
use Rattle.search.specs.inner.Group.{Looked}
use Rattle.search.proofs.group.probe_each.Given as goal

abbrev pub invariant-loop-j : goal.invariant-loop-j
invariant-loop-j l = Looked (lent_table l.table) l.hashes l.j l.low l.which l.m 0
