use Rattle.strings.specs.inner.Lent.{lent_table}
use Rattle.lookup.specs.Lookup.{text_from}
use Rattle.lookup.proofs.Bucket.{Searched}
use Rattle.lookup.proofs.find_entry.Given as goal

abbrev pub invariant-loop-j : goal.invariant-loop-j
invariant-loop-j l = Searched (lent_table l.checked.table) (text_from l.q) l.h l.k l.m l.low l.j
