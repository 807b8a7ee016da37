-- How many entries a table has, and how many of them carry an index below a number.
use Rattle.std.specs.Prelude.{ℕ, ◌+◌, ◌≤◌, ◌<◌, ◌≡◌}
use Rattle.std.proofs.Math.Decide.{dec_le}
use Rattle.laws.specs.Counting.{how_many, sum_below}
use Rattle.layout.specs.Table.{Table, entries, index_of, count}
use Rattle.strings.specs.Rules.{Carried}

-- The entries of all buckets.
unfoldable pub all_entries : Table → ℕ
all_entries t = sum_below t.buckets (entries t)

-- Those of bucket k that carry an index below m.
unfoldable pub below_in : Table → ℕ → ℕ → ℕ
below_in t m k = how_many (entries t k) (λ j. dec_le (index_of t k j + 1) m)

-- Those of all buckets.
unfoldable pub all_below : Table → ℕ → ℕ
all_below t m = sum_below t.buckets (below_in t m)

-- All positions before lo are carried, and not all before hi.
pub record Between (t : Table) (lo hi : ℕ) : Type 0 where
  pub low : 1 ≤ lo
  pub apart : lo < hi
  pub high : hi ≤ count t
  pub carried : all_below t lo + 1 ≡ lo
  pub not-all : all_below t hi + 1 ≡ hi → ⊥

-- Position i is the first that no entry carries.
pub record FirstUncarried (t : Table) (i : ℕ) : Type 0 where
  pub low : 1 ≤ i
  pub high : i < count t
  pub before : (m : ℕ) → 1 ≤ m → m < i → Carried t m
  pub uncarried : Carried t i → ⊥
