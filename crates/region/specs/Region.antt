-- A segmented region (FORMAT, "Segmented regions") of elements of size bytes, at offset r of the file b: a segment count, then for each
-- segment its full count, its used count and full count elements. Addresses and ranges in it.
use Rattle.std.specs.Prelude.{ℕ, zero, suc, ◌+◌, ◌*◌, ◌≤◌, ◌<◌, List, [], ◌∷◌, ◌++◌, cond, ◌⊎◌, ◌≡◌, length, ltb, leb, Option, Some, None}
use Rattle.le.specs.Le.{u32_at}

-- The segment count.
unfoldable pub count_of : List ℕ → ℕ → ℕ
count_of b r = u32_at b r

-- Where segment s starts: the first behind the segment count, each later one behind the full count elements of the one before.
unfoldable pub start_of : ℕ → List ℕ → ℕ → ℕ → ℕ
start_of size b r zero = r + 4
start_of size b r (suc s) = start_of size b r s + 8 + u32_at b (start_of size b r s) * size

-- The full count of segment s.
unfoldable pub full_of : ℕ → List ℕ → ℕ → ℕ → ℕ
full_of size b r s = u32_at b (start_of size b r s)

-- Its used count.
unfoldable pub used_of : ℕ → List ℕ → ℕ → ℕ → ℕ
used_of size b r s = u32_at b (start_of size b r s + 4)

-- Where the region ends: behind its last segment.
unfoldable pub end_of : ℕ → List ℕ → ℕ → ℕ
end_of size b r = start_of size b r (count_of b r)

-- Used elements in the segments before s.
unfoldable pub before_of : ℕ → List ℕ → ℕ → ℕ → ℕ
before_of size b r zero = 0
before_of size b r (suc s) = before_of size b r s + used_of size b r s

-- All used elements.
unfoldable pub total_of : ℕ → List ℕ → ℕ → ℕ
total_of size b r = before_of size b r (count_of b r)

-- The offset of element el of segment seg.
unfoldable pub place_of : ℕ → List ℕ → ℕ → ℕ → ℕ → ℕ
place_of size b r seg el = start_of size b r seg + 8 + el * size

-- Its running number among the used elements, counted along the file.
unfoldable pub number_of : ℕ → List ℕ → ℕ → ℕ → ℕ → ℕ
number_of size b r seg el = before_of size b r seg + el

-- An address resolves if the element is below that segment's used count.
pub record Resolves (size : ℕ) (b : List ℕ) (r seg el : ℕ) : Type 0 where
  pub seg_in : seg < count_of b r
  pub el_in : el < used_of size b r seg

-- A range of n elements resolves if it lies within one segment's used part.
pub record Ranges (size : ℕ) (b : List ℕ) (r seg el n : ℕ) : Type 0 where
  pub seg_in : seg < count_of b r
  pub els_in : el + n ≤ used_of size b r seg

-- The same for a range whose count may be 0, which leaves its address unread.
abbrev pub Reaches : ℕ → List ℕ → ℕ → ℕ → ℕ → ℕ → Type 0
Reaches size b r seg el n = (n ≡ 0) ⊎ Ranges size b r seg el n

-- What refusals 2 and 5 leave of a region: segment and full counts at most 65,535, used at most full, all of it in the file.
pub record Laid (size : ℕ) (b : List ℕ) (r : ℕ) : Type 0 where
  pub head : r + 4 ≤ length b
  pub few : count_of b r ≤ 65535
  pub full : (s : ℕ) → s < count_of b r → full_of size b r s ≤ 65535
  pub used : (s : ℕ) → s < count_of b r → used_of size b r s ≤ full_of size b r s
  pub fits : (s : ℕ) → s < count_of b r → start_of size b r s + 8 + full_of size b r s * size ≤ length b

-- n addresses of one segment from element e on, each as segment times 65,536 plus element.
unfoldable pub in_segment : ℕ → ℕ → ℕ → List ℕ
in_segment seg e zero = []
in_segment seg e (suc n) = (seg * 65536 + e) ∷ in_segment seg (suc e) n

-- The used elements of k segments from s on.
unfoldable pub used_from : ℕ → List ℕ → ℕ → ℕ → ℕ → List ℕ
used_from size b r s zero = []
used_from size b r s (suc k) = in_segment s 0 (used_of size b r s) ++ used_from size b r (suc s) k

-- All used elements in file order.
unfoldable pub all_used : ℕ → List ℕ → ℕ → List ℕ
all_used size b r = used_from size b r 0 (count_of b r)

-- The offset of n elements from seg:el on where that range resolves; None where it does not.
unfoldable pub range_at : ℕ → List ℕ → ℕ → ℕ → ℕ → ℕ → Option ℕ
range_at size b r seg el n =
    cond (ltb seg (count_of b r)) (cond (leb (el + n) (used_of size b r seg)) (Some (place_of size b r seg el)) None) None
