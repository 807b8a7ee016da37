-- What the loops over buckets and entries have left. Assumes nothing.
use Prim.Native.Nat.{ℕ, ◌+◌, ◌-◌, ◌≤◌, ◌<◌}
use native.Mathlib.Omega.{arith}
use mathlib.Core.Path.{◌≡◌, ap}
use mathlib.Core.List.{◌++◌}
use Rattle.verdict.specs.Checks.{first_fault, each}
use Rattle.verdict.specs.Verdict.{Verdict}
use Rattle.verdict.specs.Verdict.{Accepted, Refused}
use Rattle.verdict.proofs.Laws.{Clean, each_step, row-none, row_more, row_stop}
use Rattle.verdict.proofs.Scans.{each_end, row_same}
use Rattle.layout.specs.Table.{Table, entries}
use Rattle.strings.specs.Order.{entry_checks, bucket_entry_checks, all_entry_checks}

-- from bucket k on
unfoldable pub buckets_left : Table → ℕ → Verdict
buckets_left t k = first_fault (each (bucket_entry_checks t) (t.buckets - k) k)

-- from entry j of bucket k on
unfoldable pub entries_left : Table → ℕ → ℕ → Verdict
entries_left t k j = first_fault (each (entry_checks t k) (entries t k - j) j ++ each (bucket_entry_checks t) (t.buckets - (k + 1)) (k + 1))

module _ (t : Table) where
  pub left_start : first_fault (all_entry_checks t) ≡ buckets_left t 0
  unfolding all_entry_checks buckets_left
  left_start = row_same _ _ _ _ (omega arith)

  pub left_open : (k : ℕ) → k < t.buckets → buckets_left t k ≡ entries_left t k 0
  unfolding buckets_left entries_left bucket_entry_checks
  left_open k h =
      let z : entries t k - 0 ≡ entries t k = omega arith in
      rw z (ap first_fault (each_step (bucket_entry_checks t) (t.buckets - k) (t.buckets - (k + 1)) k (omega arith)))

  pub left_more : (k j : ℕ) → j < entries t k → Clean (entry_checks t k j) → entries_left t k j ≡ entries_left t k (j + 1)
  unfolding entries_left
  left_more k j h e = row_more (entry_checks t k) (entries t k - j) (entries t k - (j + 1)) j _ (omega arith) e

  pub left_stop : (k j : ℕ) {n p : ℕ} → j < entries t k → first_fault (entry_checks t k j) ≡ Refused n p → entries_left t k j ≡ Refused n p
  unfolding entries_left
  left_stop k j h e = row_stop (entry_checks t k) (entries t k - j) j _ (omega arith) e

  pub left_next : (k j : ℕ) → entries t k ≤ j → entries_left t k j ≡ buckets_left t (k + 1)
  unfolding entries_left buckets_left
  left_next k j h = row-none (entry_checks t k) (entries t k - j) j _ (omega arith)

  pub left_none : (k : ℕ) → t.buckets ≤ k → buckets_left t k ≡ Accepted
  unfolding buckets_left
  left_none k h = each_end (bucket_entry_checks t) _ _ (omega arith)
