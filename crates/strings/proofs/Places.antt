-- What the code holds of a table (specs/inner/Held.antt): its entries and list positions lie in the file. Assumes nothing.
use Prim.Native.Nat.{ℕ, ◌+◌, ◌-◌, ◌*◌, ◌≤◌, ◌<◌}
use native.Mathlib.Omega.{arith}
use mathlib.Core.Path.{◌≡◌, refl, ap, ◌∙◌}
use mathlib.Core.List.{List}
use lib.ListN.{length, get_or}
use Rattle.le.specs.Le.{u16_at, u32_at}
use Rattle.layout.specs.Table.{Table, bucket_at, entries, entry_hash, entry_length, entry_index, entry_segment, entry_element, entry_at, hash_of, length_of, index_of, segment_of, element_of, count, position_at, listed_segment, listed_element, list_at}
use Rattle.layout.proofs.Laws.{bucket_next, bucket-fits, entry-fits, position-fits}
use Rattle.strings.specs.inner.Held.{Held, held_table, Here}
use Rattle.strings.specs.declared.Strings.{Strings}

-- an entry in the file, by its bucket's start
pub record Inside (b buckets : List ℕ) (k j : ℕ) : Type 0 where
  pub bucket : k < length buckets
  pub entry : get_or buckets k 0 + 4 + 16 * j + 16 ≤ length b
  pub small : length b ≤ 1073741824

module _ (b : List ℕ) (s : Strings) (segments buckets : List ℕ) (h : Held b s segments buckets) where
  -- an entry, by what is read as its bucket's start
  pub entry_is : (k j x : ℕ) → k < length buckets → x ≡ get_or buckets k 0 → x + 4 + 16 * j ≡ entry_at (held_table b s buckets) k j
  unfolding entry_at
  entry_is k j x l e = ap (λ (a : ℕ). a + 4 + 16 * j) (e ∙ h.bucket_starts.at k l)

  pub inside : (k j : ℕ) → Here (held_table b s buckets) k j → Inside b buckets k j
  inside k j w = record {
    bucket = w.bucket;
    entry = omega (arith, entry_is k j _ w.bucket refl, entry-fits (held_table b s buckets) h.laid k j w.bucket w.entry);
    small = h.small;
  }

  -- the entry count of a bucket
  pub count_in : (k : ℕ) → k < length buckets → get_or buckets k 0 + 4 ≤ length b
  count_in k l = omega (arith, h.bucket_starts.at k l, bucket-fits (held_table b s buckets) h.laid k l)

  -- by where it starts and ends
  pub ends_at : (k x y : ℕ) → k < length buckets → x ≡ get_or buckets k 0 → y ≡ bucket_at (held_table b s buckets) (k + 1)
      → y ≡ x + 4 + 16 * entries (held_table b s buckets) k
  ends_at k x y l e q = omega (arith, e, q, h.bucket_starts.at k l, bucket_next (held_table b s buckets) k)

  -- the last bucket ends where the address count stands
  pub last_end : (k : ℕ) → k < length buckets → length buckets ≤ k + 1 → s.list ≡ bucket_at (held_table b s buckets) (k + 1)
  unfolding list_at
  last_end k l m = let e : length buckets ≡ k + 1 = omega arith in h.list ∙ ap (bucket_at (held_table b s buckets)) e

  pub few-entries : (k : ℕ) → k < length buckets → entries (held_table b s buckets) k ≤ 1073741824
  few-entries k l = omega (arith, h.laid.bucket k l, h.small)

  -- the address count, and a list position
  pub list_is : (n : ℕ) → n ≡ u32_at b s.list → n ≡ count (held_table b s buckets)
  unfolding count
  list_is n e = e ∙ ap (u32_at b) h.list

  pub position_is : (i : ℕ) → s.list + 4 * i ≡ position_at (held_table b s buckets) i
  unfolding position_at
  position_is i = ap (λ (a : ℕ). a + 4 * i) h.list

  pub position_in : (i : ℕ) → i < count (held_table b s buckets) → s.list + 4 * i + 4 ≤ length b
  position_in i l = omega (arith, position_is i, position-fits (held_table b s buckets) h.laid i l)

-- an entry below the count that was read, and an earlier one of its bucket
pub here_in : (t : Table) (k j n : ℕ) → k < t.buckets → n ≡ entries t k → j < n → Here t k j
here_in t k j n h q l = record { bucket = h; entry = omega (arith, q) }

pub earlier : (t : Table) (k i j : ℕ) → Here t k j → i ≤ j → Here t k i
earlier t k i j h l = record { bucket = h.bucket; entry = omega (arith, h.entry) }

-- the fields of an entry as they are read at its place
module _ (t : Table) (k j e x : ℕ) (q : e ≡ entry_at t k j) where
  pub hash_at : x ≡ entry_hash t.bytes e → x ≡ hash_of t k j
  unfolding hash_of
  hash_at p = p ∙ ap (entry_hash t.bytes) q

  pub length_at : x ≡ entry_length t.bytes e → x ≡ length_of t k j
  unfolding length_of
  length_at p = p ∙ ap (entry_length t.bytes) q

  pub index_at : x ≡ entry_index t.bytes e → x ≡ index_of t k j
  unfolding index_of
  index_at p = p ∙ ap (entry_index t.bytes) q

  pub segment-at : x ≡ entry_segment t.bytes e → x ≡ segment_of t k j
  unfolding segment_of
  segment-at p = p ∙ ap (entry_segment t.bytes) q

  pub element-at : x ≡ entry_element t.bytes e → x ≡ element_of t k j
  unfolding element_of
  element-at p = p ∙ ap (entry_element t.bytes) q

-- the address at a list position, as it is read there
module _ (t : Table) (i p x : ℕ) (q : p ≡ position_at t i) where
  pub listed-segment-at : x ≡ u16_at t.bytes p → x ≡ listed_segment t i
  unfolding listed_segment
  listed-segment-at e = e ∙ ap (u16_at t.bytes) q

  pub listed-element-at : x ≡ u16_at t.bytes (p + 2) → x ≡ listed_element t i
  unfolding listed_element
  listed-element-at e = e ∙ ap (λ (a : ℕ). u16_at t.bytes (a + 2)) q

-- the entry before stands 16 bytes before
module _ (t : Table) (k j e : ℕ) (q : e ≡ entry_at t k j) (z : j ≡ 0 → ⊥) where
  pub before_in : 16 ≤ e
  unfolding entry_at
  before_in = omega arith

  pub before_is : e - 16 ≡ entry_at t k (j - 1)
  unfolding entry_at
  before_is = omega arith
