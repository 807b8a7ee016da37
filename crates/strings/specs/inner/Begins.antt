-- Where texts can begin among the characters of a string table: at the first character of a segment, and behind each 0.
use Rattle.std.specs.Prelude.{ℕ, zero, suc, ◌<◌, ◌≡◌, Bool, true, List, eqb}
use Rattle.le.specs.Le.{u16_at}
use Rattle.region.specs.Region.{place_of}
use Rattle.layout.specs.Table.{Table, entries, segment_of, element_of}

-- Whether one can at element el of segment seg.
unfoldable pub begins : List ℕ → ℕ → ℕ → ℕ → Bool
begins b r seg zero = true
begins b r seg (suc el) = eqb (u16_at b (place_of 2 b r seg el)) 0

-- The text of entry j of bucket k stands where one can.
abbrev pub Begun : Table → ℕ → ℕ → Type 0
Begun t k j = begins t.bytes t.at (segment_of t k j) (element_of t k j) ≡ true

-- That of each entry does.
abbrev pub AllBegun : Table → Type 0
AllBegun t = (k j : ℕ) → k < t.buckets → j < entries t k → Begun t k j
