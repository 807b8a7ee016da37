use Rattle.strings.specs.inner.Lent.{lent_table}
use Rattle.search.specs.inner.Group.{AllSearching}
use Rattle.search.proofs.pending.begin_each.Given as goal

abbrev pub invariant-loop-j : goal.invariant-loop-j
invariant-loop-j l = AllSearching (lent_table l.table) l.hashes l.j l.left
