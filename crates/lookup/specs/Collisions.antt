-- The entries of a string table that have a hash (FORMAT, "Questions").
use Rattle.std.specs.Prelude.{ℕ, ◌≡◌}
use Rattle.std.proofs.Math.Decide.{ℕ_discrete}
use Rattle.laws.specs.Counting.{how_many, sum_below}
use Rattle.verdict.specs.Checks.{SomeBelow}
use Rattle.layout.specs.Table.{Table, entries, hash_of}

-- Some entry has the hash h.
abbrev pub HasHash : Table → ℕ → Type 0
HasHash t h = SomeBelow t.buckets (λ k. SomeBelow (entries t k) (λ j. hash_of t k j ≡ h))

-- How many have it, of all entries of the table.
unfoldable pub hash_count : Table → ℕ → ℕ
hash_count t h = sum_below t.buckets (λ k. how_many (entries t k) (λ j. ℕ_discrete (hash_of t k j) h))
