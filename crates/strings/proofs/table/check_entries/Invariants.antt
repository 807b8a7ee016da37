use Prim.Native.Nat.{ℕ, ◌<◌}
use mathlib.Core.Path.{◌≡◌}
use Rattle.verdict.specs.Verdict.{Accepted, answer_of}
use Rattle.verdict.specs.Checks.{first_fault}
use Rattle.verdict.specs.inner.Tells.{Sure}
use Rattle.strings.specs.inner.Lent.{lent_table}
use Rattle.strings.specs.inner.Ahead.{Ahead}
use Rattle.strings.specs.inner.Apart.{Apart}
use Rattle.strings.specs.inner.Begins.{Begun}
use Rattle.strings.specs.Order.{entry_checks, all_entry_checks}
use Rattle.strings.proofs.Left.{buckets_left, entries_left}
use Rattle.strings.proofs.Begun.{BegunBefore}
use Rattle.strings.proofs.table.check_entries.Given as goal

abbrev pub invariant-loop-j : goal.invariant-loop-j
invariant-loop-j l = let t = lent_table l.table in record {
  none : answer_of l.answer ≡ Accepted;
  rest : first_fault (all_entry_checks t) ≡ entries_left t l.k l.j;
  passed : (i : ℕ) → i < l.j → first_fault (entry_checks t l.k i) ≡ Accepted;
  ahead : Ahead t l.k l.j l.spots l.seen;
  begun : Sure (BegunBefore t l.k × ((i : ℕ) → i < l.j → Begun t l.k i)) l.begun;
  apart : Apart t l.k l.span.start l.span.end;
}

abbrev pub invariant-buckets : goal.invariant-buckets
invariant-buckets l = let t = lent_table l.table in record {
  none : answer_of l.answer ≡ Accepted;
  rest : first_fault (all_entry_checks t) ≡ buckets_left t l.k;
  begun : Sure (BegunBefore t l.k) l.begun;
}
