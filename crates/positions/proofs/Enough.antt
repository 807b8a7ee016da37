-- A table whose entries pass, and that has as many of them as list positions: each position is carried. Assumes nothing.
use Prim.Native.Nat.{ℕ, zero, suc, ◌+◌, ◌-◌, ◌*◌, ◌^◌, ◌≤◌, ◌<◌}
use native.Mathlib.Omega.{arith}
use mathlib.Core.Path.{◌≡◌, refl, sym, ◌∙◌}
use mathlib.Core.List.{List}
use lib.ListN.{length, get_or}
use Rattle.laws.specs.Counting.{sum_below}
use Rattle.verdict.proofs.Laws.{Clean}
use Rattle.layout.specs.Table.{Table, bucket_at, entries, index_of, list_at, count}
use Rattle.strings.specs.Rules.{Carried}
use Rattle.strings.specs.inner.Held.{Held, held_table}
use Rattle.strings.specs.declared.Strings.{Strings}
use Rattle.strings.specs.Order.{all_entry_checks, all_position_checks}
use Rattle.strings.proofs.Accepted.{all_good, positions_clean}
use Rattle.strings.proofs.Only.{text-of-index, one_entry}
use Rattle.positions.specs.inner.Total.{all_entries}
use Rattle.positions.proofs.Numbered.{all_taken}

module _ (t : Table) where
  module _ (ok : Clean (all_entry_checks t)) where
    -- each entry carries another index
    pub same_index : (k j m i : ℕ) → k < t.buckets → j < entries t k → m < t.buckets → i < entries t m → index_of t k j ≡ index_of t m i
        → (k ≡ m) × (j ≡ i)
    same_index k j m i h l g n e = one_entry t ok k j m i h l g n (text-of-index t ok k j _ h l e ∙ sym (text-of-index t ok m i _ g n refl))

    -- counted from 1
    low : (k j : ℕ) → k < t.buckets → j < entries t k → 1 ≤ index_of t k j
    low k j h l = (all_good t ok k j h l).indexed.low

    pub all-carried : all_entries t + 1 ≡ count t → (i : ℕ) → 1 ≤ i → i < count t → Carried t i
    all-carried e i l h =
        let w =
        all_taken t (λ k j. index_of t k j - 1)
        (λ k j m n a b c d q. same_index k j m n a b c d (omega (arith, low k j a b, low m n c d)))
        (all_entries t) (omega arith) (λ k j a b. omega (arith, (all_good t ok k j a b).indexed.high, low k j a b)) (i - 1) (omega arith) in
        (w.0, w.1, (w.2.0, w.2.1, omega (arith, w.2.2, low w.0 w.2.0 w.1 w.2.1)))

    pub enough : all_entries t + 1 ≡ count t → Clean (all_position_checks t)
    enough e = positions_clean t (all-carried e)

  -- ---- how many there are, by their places

  places : (n : ℕ) → bucket_at t n ≡ bucket_at t 0 + 4 * n + 16 * sum_below n (entries t)
  unfolding bucket_at sum_below entries
  places zero = omega arith
  places (suc n) = omega (arith, places n)

  list-place : list_at t ≡ bucket_at t 0 + 4 * t.buckets + 16 * all_entries t
  unfolding list_at all_entries
  list-place = places t.buckets

-- by the start of the first bucket, as it is read
pub list_held : (b : List ℕ) (s : Strings) (segments buckets : List ℕ) → Held b s segments buckets → (x : ℕ) → x ≡ get_or buckets 0 0
    → s.list ≡ x + 4 * length buckets + 16 * all_entries (held_table b s buckets)
list_held b s segments buckets h x e =
    omega (arith, h.list, h.bucket_starts.at 0 h.some-bucket, list-place (held_table b s buckets))

pub few-entries : (b : List ℕ) (s : Strings) (segments buckets : List ℕ) → Held b s segments buckets → all_entries (held_table b s buckets) < 2 ^ 32
few-entries b s segments buckets h = omega (arith, h.small, h.laid.list, list-place (held_table b s buckets))
