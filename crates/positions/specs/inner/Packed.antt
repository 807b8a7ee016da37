-- Tables whose texts fill their characters: a text can begin nowhere but at an entry's address.
use Rattle.std.specs.Prelude.{ℕ, zero, suc, ◌+◌, ◌≡◌, true, List}
use Rattle.region.specs.Region.{count_of, used_of, place_of, Resolves}
use Rattle.text.specs.inner.Zeros.{zeros_in}
use Rattle.layout.specs.Table.{Table}
use Rattle.strings.specs.inner.Begins.{begins}
use Rattle.strings.specs.Rules.{EntryAddress}

-- Wherever one can begin, an entry's does.
abbrev pub Packed : Table → Type 0
Packed t = (seg el : ℕ) → Resolves 2 t.bytes t.at seg el → begins t.bytes t.at seg el ≡ true → EntryAddress t seg el

-- At how many of the first n characters of a segment, which stand at p, one can: the first, and each behind a 0.
unfoldable pub begun_in : List ℕ → ℕ → ℕ → ℕ
begun_in b p zero = 0
begun_in b p (suc n) = 1 + zeros_in b p n

-- In the used parts of the segments before s.
unfoldable pub begun_before : List ℕ → ℕ → ℕ → ℕ
begun_before b r zero = 0
begun_before b r (suc s) = begun_before b r s + begun_in b (place_of 2 b r s 0) (used_of 2 b r s)

-- In all of them.
unfoldable pub all_begun : List ℕ → ℕ → ℕ
all_begun b r = begun_before b r (count_of b r)
