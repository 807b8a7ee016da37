-- The rules of a string table, by their numbers (FORMAT, "Refusals").
use Rattle.std.specs.Prelude.{ℕ, ◌+◌, ◌-◌, ◌≤◌, ◌<◌, ◌≡◌, length}
use Rattle.verdict.specs.Checks.{SomeBelow}
use Rattle.hash.specs.Hash.{hash_text, bucket_of}
use Rattle.region.specs.Region.{Resolves}
use Rattle.layout.specs.Table.{Table, entries, hash_of, length_of, index_of, segment_of, element_of, count, listed_segment, listed_element}
use Rattle.strings.specs.Texts.{text_of}

-- 7: the entry's address resolves.
abbrev pub Resolved : Table → ℕ → ℕ → Type 0
Resolved t k j = Resolves 2 t.bytes t.at (segment_of t k j) (element_of t k j)

-- 8: the length is right. It counts the 0, also where that is not stored.
abbrev pub Sized : Table → ℕ → ℕ → Type 0
Sized t k j = length_of t k j ≡ length (text_of t k j) + 1

-- 9: the hash is the text's.
abbrev pub Hashed : Table → ℕ → ℕ → Type 0
Hashed t k j = hash_of t k j ≡ hash_text (text_of t k j)

-- 10: the right bucket, and a hash not below that of the entry before in it (the first entry: its own).
pub record Placed (t : Table) (k j : ℕ) : Type 0 where
  pub bucket : bucket_of t.buckets (hash_of t k j) ≡ k
  pub ascends : hash_of t k (j - 1) ≤ hash_of t k j

-- 11: the index is 1 .. count - 1, and the address there is the entry's.
pub record Indexed (t : Table) (k j : ℕ) : Type 0 where
  pub low : 1 ≤ index_of t k j
  pub high : index_of t k j < count t
  pub segment : listed_segment t (index_of t k j) ≡ segment_of t k j
  pub element : listed_element t (index_of t k j) ≡ element_of t k j

-- 12 is given where an earlier entry of the bucket has the same text.
abbrev pub Duplicate : Table → ℕ → ℕ → Type 0
Duplicate t k j = SomeBelow j (λ i. text_of t k i ≡ text_of t k j)

-- 13: an entry carries the list position's index.
abbrev pub Carried : Table → ℕ → Type 0
Carried t i = SomeBelow t.buckets (λ k. SomeBelow (entries t k) (λ j. index_of t k j ≡ i))

-- An address is that of some entry of a table.
abbrev pub EntryAddress : Table → ℕ → ℕ → Type 0
EntryAddress t seg el = SomeBelow t.buckets (λ k. SomeBelow (entries t k) (λ j. (segment_of t k j ≡ seg) × (element_of t k j ≡ el)))

-- The rules of an entry by itself.
pub record EntryRules (t : Table) (k j : ℕ) : Type 0 where
  pub resolved : Resolved t k j
  pub sized : Sized t k j
  pub hashed : Hashed t k j
  pub bucket : bucket_of t.buckets (hash_of t k j) ≡ k
  pub indexed : Indexed t k j

-- All rules of a table (FORMAT, "Refusals").
pub record TableRules (t : Table) : Type 0 where
  pub entry : (k j : ℕ) → k < t.buckets → j < entries t k → EntryRules t k j
  pub ascending : (k i j : ℕ) → k < t.buckets → j < entries t k → i + 1 ≡ j → hash_of t k i ≤ hash_of t k j
  pub distinct : (k i j : ℕ) → k < t.buckets → j < entries t k → i < j → text_of t k i ≡ text_of t k j → ⊥
  pub carried : (i : ℕ) → 1 ≤ i → i < count t → Carried t i
