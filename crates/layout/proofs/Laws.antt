-- Laws of specs/Table.antt and specs/Layout.antt, on which every later proof lives. Assumes nothing.
use Prim.Native.Nat.{ℕ, zero, suc, ◌+◌, ◌-◌, ◌*◌, ◌≤◌, ◌<◌}
use native.Mathlib.Nat.{add-zero}
use native.Mathlib.Numerals.{add-one}
use native.Mathlib.Omega.{arith}
use mathlib.Core.Path.{◌≡◌, refl}
use mathlib.Core.List.{List}
use lib.ListN.{length}
use Rattle.region.specs.Region.{end_of}
use Rattle.layout.specs.Header.{keys_at, key_count, key_at}
use Rattle.layout.specs.Table.{Table, bucket_at, entries, entry_at, count, position_at, table_end, TableLaid}
use Rattle.layout.specs.Layout.{attributes_at, LaidOut}
use Rattle.layout.specs.declared.Edition.{Edition}

-- ---- a string table

module _ (t : Table) where
  -- the first bucket starts behind the characters, the next one behind this one
  pub bucket-first : bucket_at t 0 ≡ end_of 2 t.bytes t.at
  unfolding bucket_at
  bucket-first = refl

  pub bucket_next : (k : ℕ) → bucket_at t (k + 1) ≡ bucket_at t k + 4 + 16 * entries t k
  unfolding bucket_at entries
  bucket_next k = rw add-one

  -- buckets stand one behind the other, all behind the table's start
  bucket-apart : (i n : ℕ) → bucket_at t i + 4 + 16 * entries t i ≤ bucket_at t (i + 1 + n)
  bucket-apart i zero = rw (add-zero (i + 1)) (omega (arith, bucket_next i))
  bucket-apart i (suc n) =
      let e : i + 1 + suc n ≡ i + 1 + n + 1 = omega arith in
      rw e (omega (arith, bucket_next (i + 1 + n), bucket-apart i n))

  pub bucket-order : (i k : ℕ) → i < k → bucket_at t i + 4 + 16 * entries t i ≤ bucket_at t k
  bucket-order i k h = let e : k ≡ i + 1 + (k - (i + 1)) = omega arith in rw e (bucket-apart i (k - (i + 1)))

  pub position_in : (i : ℕ) → i < count t → position_at t i + 4 ≤ table_end t
  unfolding position_at table_end
  position_in i h = omega arith

  -- of a table that is laid, each bucket, entry and list position lies in the file
  module _ {most : ℕ} (g : TableLaid t most) where
    pub bucket-fits : (k : ℕ) → k < t.buckets → bucket_at t k + 4 ≤ length t.bytes
    bucket-fits k h = omega (arith, g.bucket k h)

    pub entry-fits : (k j : ℕ) → k < t.buckets → j < entries t k → entry_at t k j + 16 ≤ length t.bytes
    unfolding entry_at
    entry-fits k j h l = omega (arith, g.bucket k h)

    pub position-fits : (i : ℕ) → i < count t → position_at t i + 4 ≤ length t.bytes
    position-fits i h = omega (arith, position_in i h, g.positions)

-- ---- the parts of a file, each behind the one before

module _ (b : List ℕ) where
  pub key_in : (k : ℕ) → k < key_count b → key_at k + 8 ≤ attributes_at b
  unfolding attributes_at key_at
  key_in k h = omega arith

module _ (ed : Edition) (b : List ℕ) (g : LaidOut ed b) where
  pub keys_fit : keys_at + 4 ≤ length b
  unfolding attributes_at key_at
  keys_fit = omega (arith, g.keys)

  pub key_fits : (k : ℕ) → k < key_count b → key_at k + 8 ≤ length b
  key_fits k h = omega (arith, key_in b k h, g.keys)
