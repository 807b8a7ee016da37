use Rattle.hash.specs.inner.Tables.{Entries}
use Rattle.hash.proofs.Lent.{Filled}
use Rattle.hash.proofs.HashTables.new.Given as goal

abbrev pub invariant-loop-i : goal.invariant-loop-i
invariant-loop-i l = Filled l.t l.i × Entries l.source
