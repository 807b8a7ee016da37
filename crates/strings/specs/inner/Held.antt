-- A string table as the code holds it: its characters with their samples, its buckets' starts, the place of its address count.
use Rattle.std.specs.Prelude.{ℕ, ◌-◌, ◌≤◌, ◌<◌, ◌≡◌, List, length}
use Rattle.region.specs.inner.Samples.{Mapped, Starts}
use Rattle.layout.specs.Table.{Table, table, entries, hash_of, list_at, TableLaid, BucketStarts}
use Rattle.layout.specs.Layout.{values_most}
use Rattle.strings.specs.Rules.{Resolved, Sized, Hashed}
use Rattle.strings.specs.declared.Strings.{Strings}

-- The table that the code holds: it starts with its characters, and has as many buckets as there are starts of buckets.
abbrev pub held_table : List ℕ → Strings → List ℕ → Table
held_table b s buckets = table b s.chars.at (length buckets)

-- The parts are that table's, laid in a file that is small enough.
pub record Held (b : List ℕ) (s : Strings) (segments buckets : List ℕ) : Type 0 where
  pub small : length b ≤ 1073741824
  pub laid : TableLaid (held_table b s buckets) values_most
  pub some-bucket : 1 ≤ length buckets
  pub chars : Mapped 2 b s.chars.at s.chars
  pub sampled : Starts 2 b s.chars.at s.chars.shift segments
  pub bucket_starts : BucketStarts (held_table b s buckets) buckets
  pub list : s.list ≡ list_at (held_table b s buckets)

-- There is an entry j of bucket k.
pub record Here (t : Table) (k j : ℕ) : Type 0 where
  pub bucket : k < t.buckets
  pub entry : j < entries t k

-- Refusals 7 to 9 are not due.
pub record TextPasses (t : Table) (k j : ℕ) : Type 0 where
  pub resolved : Resolved t k j
  pub sized : Sized t k j
  pub hashed : Hashed t k j

-- The texts of the entries of a bucket up to j are right, and their hashes in order: what the test for a duplicate asks.
pub record Sorted (t : Table) (k j : ℕ) : Type 0 where
  pub right : (i : ℕ) → i ≤ j → TextPasses t k i
  pub ascends : (i : ℕ) → i ≤ j → hash_of t k (i - 1) ≤ hash_of t k i
