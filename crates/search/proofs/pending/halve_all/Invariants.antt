use Rattle.strings.specs.inner.Lent.{lent_table}
use Rattle.search.specs.inner.Group.{AllSearching}
use Rattle.search.proofs.pending.halve_all.Given as goal

abbrev pub invariant-loop-j : goal.invariant-loop-j
invariant-loop-j l = AllSearching (lent_table l.table) l.hashes l.n l.left

abbrev pub invariant-loop : goal.invariant-loop
invariant-loop l = AllSearching (lent_table l.table) l.hashes l.n l.left
