-- What is read of entries before they are checked.
use Rattle.std.specs.Prelude.{ℕ, ◌+◌, ◌-◌, ◌%◌, ◌<◌, ◌≡◌, List, get_or, Option, Some, None}
use Rattle.le.specs.Le.{u16_at}
use Rattle.layout.specs.Table.{Table, entries}
use Rattle.strings.specs.Texts.{text_spot}
use Rattle.strings.specs.Rules.{Indexed}
use Rattle.strings.specs.declared.spot.Spot.{Spot}

-- The index of each entry of bucket k is right.
abbrev pub BucketIndexed : Table → ℕ → Type 0
BucketIndexed t k = (j : ℕ) → j < entries t k → Indexed t k j

-- That of each entry is.
abbrev pub AllIndexed : Table → Type 0
AllIndexed t = (k : ℕ) → k < t.buckets → BucketIndexed t k

-- c ends in the character before the spot, if there is one.
abbrev pub Seen : List ℕ → Option Spot → ℕ → Type 0
Seen b r c = (x : Spot) → r ≡ Some x → c % 65536 ≡ u16_at b (x.at - 2)

-- The spot of the text of entry j of bucket k, and what is seen before it.
pub record Prefetched (t : Table) (k j : ℕ) (r : Option Spot) (c : ℕ) : Type 0 where
  pub standing : r ≡ text_spot t k j
  pub before : Seen t.bytes r c

-- The spots of the texts of the first m entries of bucket k from j on.
pub record Stood (t : Table) (k j m : ℕ) (spots : List (Option Spot)) : Type 0 where
  pub each : (i : ℕ) → i < m → get_or spots i None ≡ text_spot t k (j + i)

-- What is seen before the first m of them.
pub record SeenBefore (b : List ℕ) (m : ℕ) (spots : List (Option Spot)) (seen : List ℕ) : Type 0 where
  pub each : (i : ℕ) → i < m → Seen b (get_or spots i None) (get_or seen i 0)

-- 64 entries of bucket k from j on, as far as there are so many.
pub record ReadAhead (t : Table) (k j : ℕ) (spots : List (Option Spot)) (seen : List ℕ) : Type 0 where
  pub prefetched : (i : ℕ) → i < 64 → j + i < entries t k → Prefetched t k (j + i) (get_or spots i None) (get_or seen i 0)

-- Those from the multiple of 64 up to j on, unless j is that multiple: then they are still to be read.
pub record Ahead (t : Table) (k j : ℕ) (spots : List (Option Spot)) (seen : List ℕ) : Type 0 where
  pub rest : (j % 64 ≡ 0 → ⊥) → ReadAhead t k (j - j % 64) spots seen
