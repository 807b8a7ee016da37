-- Refusals 2 and 5 along a segmented region (FORMAT, "Refusals"), each field tested as it is read.
use Rattle.std.specs.Prelude.{ℕ, ◌+◌, ◌*◌, List, [], ◌∷◌, length}
use Rattle.verdict.specs.Checks.{Check, at_most, each}
use Rattle.region.specs.Region.{count_of, start_of, full_of, used_of}

-- 2: so many bytes at an offset lie in the file.
abbrev pub field : List ℕ → ℕ → ℕ → Check
field b at width = at_most 2 at (at + width) (length b)

-- A segment: its full count, its used count, its elements.
unfoldable pub segment_checks : ℕ → List ℕ → ℕ → ℕ → List Check
segment_checks size b r s =
    field b (start_of size b r s) 4
    ∷ at_most 5 (start_of size b r s) (full_of size b r s) 65535
    ∷ field b (start_of size b r s + 4) 4
    ∷ at_most 5 (start_of size b r s + 4) (used_of size b r s) (full_of size b r s)
    ∷ field b (start_of size b r s + 8) (full_of size b r s * size)
    ∷ []

-- The region: its segment count, then segment by segment.
unfoldable pub region_checks : ℕ → List ℕ → ℕ → List Check
region_checks size b r = field b r 4 ∷ at_most 5 r (count_of b r) 65535 ∷ each (segment_checks size b r) (count_of b r) 0
