use Rattle.search.specs.inner.Group.{Within}
use Rattle.search.proofs.group.find_windows.Given as goal

abbrev pub invariant-loop-j : goal.invariant-loop-j
invariant-loop-j g l = Within l.table.file.now l.j l.windows
