-- Laws of specs/Region.antt, on which every later proof lives. Assumes nothing.
use Prim.Native.Nat.{ℕ, zero, suc, ◌+◌, ◌-◌, ◌*◌, ◌^◌, ◌≤◌, ◌<◌}
use native.Mathlib.Nat.{mul-le-mul_right, add-mul, add-zero, zero-add, not-suc-le-zero}
use native.Mathlib.Numerals.{add-one}
use mathlib.Core.Path.{◌≡◌, refl, ap, sym, ◌∙◌}
use mathlib.Core.List.{List, ◌++◌}
use mathlib.Core.Logic.{⊎_elim}
use native.Mathlib.Omega.{arith}
use lib.ListN.{length, get_or, length-append, get_or-append}
use lib.Seq.{get_or-append-add}
use borrow.Author.Tests.{lt-ltb, le-ltb, le-leb, lt-leb}
use Rattle.laws.proofs.Order.{le_or_lt}
use Rattle.region.specs.Decisions.{ranges?}
use Rattle.std.specs.Prelude.{Option, Some, None}
use Rattle.region.specs.Region.{count_of, start_of, full_of, used_of, end_of, before_of, total_of, place_of, number_of, Resolves, Ranges, Laid, in_segment, used_from, all_used, range_at}

module _ (size : ℕ) (b : List ℕ) (r : ℕ) where
  -- the next segment starts behind this one
  pub start_next : (s : ℕ) → start_of size b r (s + 1) ≡ start_of size b r s + 8 + full_of size b r s * size
  unfolding start_of full_of
  start_next s = rw add-one

  pub before_next : (s : ℕ) → before_of size b r (s + 1) ≡ before_of size b r s + used_of size b r s
  unfolding before_of
  before_next s = rw add-one

  pub before-apart : (i k : ℕ) → before_of size b r i + used_of size b r i ≤ before_of size b r (i + 1 + k)
  before-apart i zero = rw (add-zero (i + 1)) (omega (arith, before_next i))
  before-apart i (suc k) =
      let e : i + 1 + suc k ≡ i + 1 + k + 1 = omega arith in
      rw e (omega (arith, before_next (i + 1 + k), before-apart i k))

  pub before-order : (i j : ℕ) → i < j → before_of size b r i + used_of size b r i ≤ before_of size b r j
  before-order i j h = let e : j ≡ i + 1 + (j - (i + 1)) = omega arith in rw e (before-apart i (j - (i + 1)))

  start_apart : (i k : ℕ) → start_of size b r i + 8 + full_of size b r i * size ≤ start_of size b r (i + 1 + k)
  start_apart i zero = rw (add-zero (i + 1)) (omega (arith, start_next i))
  start_apart i (suc k) =
      let e : i + 1 + suc k ≡ i + 1 + k + 1 = omega arith in
      rw e (omega (arith, start_next (i + 1 + k), start_apart i k))

  -- a segment ends where the region does, or before
  pub segment_end : (s : ℕ) → s < count_of b r → start_of size b r s + 8 + full_of size b r s * size ≤ end_of size b r
  unfolding end_of
  segment_end s h = let e : count_of b r ≡ s + 1 + (count_of b r - (s + 1)) = omega arith in rw e (start_apart s (count_of b r - (s + 1)))

  -- an element and a range lie in the file
  pub range-fits : Laid size b r → (seg el n : ℕ) → Ranges size b r seg el n → place_of size b r seg el + n * size ≤ length b
  unfolding place_of
  range-fits g seg el n h =
      omega (arith, g.fits seg h.seg_in, add-mul el n size, mul-le-mul_right {m = el + n} {n = full_of size b r seg} size (omega (arith, h.els_in, g.used seg h.seg_in)))

  -- a resolved address is a range of one
  pub one-range : (seg el : ℕ) → Resolves size b r seg el → Ranges size b r seg el 1
  one-range seg el h = record { seg_in = h.seg_in; els_in = omega (arith, h.el_in) }

  pub place-fits : Laid size b r → (seg el : ℕ) → Resolves size b r seg el → place_of size b r seg el + size ≤ length b
  place-fits g seg el h = omega (arith, range-fits g seg el 1 (one-range seg el h))

  -- each element of a range resolves, and stands and counts in a row
  pub range-each : (seg el n j : ℕ) → Ranges size b r seg el n → j < n → Resolves size b r seg (el + j)
  range-each seg el n j h l = record { seg_in = h.seg_in; el_in = omega (arith, h.els_in) }

  pub place-row : (seg el j : ℕ) → place_of size b r seg (el + j) ≡ place_of size b r seg el + j * size
  unfolding place_of
  place-row seg el j = omega (arith, add-mul el j size)

  pub number-row : (seg el j : ℕ) → number_of size b r seg (el + j) ≡ number_of size b r seg el + j
  unfolding number_of
  number-row seg el j = omega arith

  -- a number is below the total
  pub number_lt : (seg el : ℕ) → Resolves size b r seg el → number_of size b r seg el < total_of size b r
  unfolding number_of total_of
  number_lt seg el h = omega (arith, h.el_in, before-order seg (count_of b r) h.seg_in)

  pub range-numbers : (seg el n : ℕ) → Ranges size b r seg el n → number_of size b r seg el + n ≤ total_of size b r
  unfolding number_of total_of
  range-numbers seg el n h = omega (arith, h.els_in, before-order seg (count_of b r) h.seg_in)

  -- two addresses with one number are the same
  pub number_same : (s e t f : ℕ) → Resolves size b r s e → Resolves size b r t f → number_of size b r s e ≡ number_of size b r t f → (s ≡ t) × (e ≡ f)
  unfolding number_of
  number_same s e t f h l q =
      ⊎_elim
      (λ le. ⊎_elim
      (λ ge. let st : s ≡ t = omega arith in (st, (let z = ap (before_of size b r) st in omega arith)))
      (λ lt. absurd (omega (arith, before-order s t lt, h.el_in)))
      (le_or_lt t s))
      (λ gt. absurd (omega (arith, before-order t s gt, l.el_in)))
      (le_or_lt s t)

  -- each number below the total is some address's
  find_from : (n i : ℕ) → n ≤ count_of b r → i < before_of size b r n
      → (s : ℕ) × (e : ℕ) × Resolves size b r s e × (number_of size b r s e ≡ i)
  unfolding number_of before_of
  find_from zero i h l = absurd (not-suc-le-zero l)
  find_from (suc n) i h l =
      ⊎_elim
      (λ le. (n, i - before_of size b r n, record { seg_in = omega arith; el_in = omega arith }, omega arith))
      (λ lt. find_from n i (omega arith) lt)
      (le_or_lt (before_of size b r n) i)

  pub number-found : (i : ℕ) → i < total_of size b r → (s : ℕ) × (e : ℕ) × Resolves size b r s e × (number_of size b r s e ≡ i)
  unfolding total_of
  number-found i l = find_from (count_of b r) i (omega arith) l

  -- the enumeration: address s:e stands at its number, and there are as many as the total
  length_in : (s e n : ℕ) → length (in_segment s e n) ≡ n
  unfolding in_segment
  length_in s e zero = refl
  length_in s e (suc n) = ap suc (length_in s (suc e) n)

  at_in : (s e n j : ℕ) → j < n → get_or (in_segment s e n) j 0 ≡ s * 65536 + (e + j)
  unfolding in_segment
  at_in s e zero j h = absurd (not-suc-le-zero h)
  at_in s e (suc n) zero h = omega arith
  at_in s e (suc n) (suc j) h = at_in s (suc e) n j (omega arith) ∙ omega arith

  length_from : (s k : ℕ) → before_of size b r s + length (used_from size b r s k) ≡ before_of size b r (s + k)
  unfolding used_from
  length_from s zero = rw (add-zero s) (omega arith)
  length_from s (suc k) =
      let e : s + suc k ≡ suc s + k = omega arith in
      let n : before_of size b r (suc s) ≡ before_of size b r s + used_of size b r s = ap (before_of size b r) (sym (add-one s)) ∙ before_next s in
      rw e
      (omega (arith, length-append (in_segment s 0 (used_of size b r s)) (used_from size b r (suc s) k), length_in s 0 (used_of size b r s), length_from (suc s) k))

  at_from : (s k t e i : ℕ) → s ≤ t → t < s + k → e < used_of size b r t → before_of size b r s + i ≡ before_of size b r t + e
      → get_or (used_from size b r s k) i 0 ≡ t * 65536 + e
  unfolding used_from
  at_from s zero t e i h l d q = absurd (omega arith)
  at_from s (suc k) t e i h l d q =
      let n : before_of size b r (suc s) ≡ before_of size b r s + used_of size b r s = ap (before_of size b r) (sym (add-one s)) ∙ before_next s in
      ⊎_elim
      (λ le.
      let st : s ≡ t = omega arith in
      let zb = ap (before_of size b r) st in
      let zu = ap (used_of size b r) st in
      let ie : i ≡ e = omega arith in
      get_or-append (in_segment s 0 (used_of size b r s)) (used_from size b r (suc s) k) 0 i (omega (arith, length_in s 0 (used_of size b r s)))
      ∙ at_in s 0 (used_of size b r s) i (omega arith) ∙ omega arith)
      (λ lt.
      let o = before-order s t lt in
      let j : i ≡ length (in_segment s 0 (used_of size b r s)) + (i - used_of size b r s) = omega (arith, length_in s 0 (used_of size b r s)) in
      ap (λ (m : ℕ). get_or (in_segment s 0 (used_of size b r s) ++ used_from size b r (suc s) k) m 0) j
      ∙ get_or-append-add (in_segment s 0 (used_of size b r s)) (used_from size b r (suc s) k) (i - used_of size b r s) 0
      ∙ at_from (suc s) k t e (i - used_of size b r s) (omega arith) (omega arith) d (omega arith))
      (le_or_lt t s)

  pub all-length : length (all_used size b r) ≡ total_of size b r
  unfolding all_used total_of before_of
  all-length = omega (arith, length_from 0 (count_of b r), ap (before_of size b r) (zero-add (count_of b r)))

  pub all-at : (s e : ℕ) → Resolves size b r s e → get_or (all_used size b r) (number_of size b r s e) 0 ≡ s * 65536 + e
  unfolding all_used number_of before_of
  all-at s e h = at_from 0 (count_of b r) s e _ (omega arith) (omega (arith, h.seg_in)) h.el_in (omega arith)

  -- a laid region lies in the file
  start_in : Laid size b r → (s : ℕ) → s ≤ count_of b r → start_of size b r s ≤ length b
  unfolding start_of full_of
  start_in g zero h = g.head
  start_in g (suc s) h = g.fits s h

  pub end_le : Laid size b r → end_of size b r ≤ length b
  unfolding end_of
  end_le g = start_in g (count_of b r) (omega arith)

  -- used elements stay few
  before_small : Laid size b r → (s : ℕ) → s ≤ count_of b r → before_of size b r s ≤ 65535 * s
  unfolding before_of
  before_small g zero h = omega arith
  before_small g (suc s) h = omega (arith, before_small g s (omega arith), g.full s h, g.used s h)

  pub before-low : Laid size b r → (s : ℕ) → s ≤ count_of b r → before_of size b r s < 2 ^ 32
  before-low g s h = omega (arith, before_small g s h, g.few)

-- what a place tells, and when it is answered
no_place : {p : ℕ} → ◌≡◌ {A = Option ℕ} (Some p) None → ⊥
no_place z = let e : ◌≡◌ {A = ℕ} 0 1 = cc in omega arith

module _ (size : ℕ) (b : List ℕ) (r seg el n : ℕ) where
  pub range_at_yes : Ranges size b r seg el n → range_at size b r seg el n ≡ Some (place_of size b r seg el)
  unfolding range_at
  range_at_yes h = rw (lt-ltb seg (count_of b r) h.seg_in, le-leb (el + n) (used_of size b r seg) h.els_in)

  pub range_at_no : (Ranges size b r seg el n → ⊥) → range_at size b r seg el n ≡ None
  unfolding range_at
  range_at_no f =
      ⊎_elim
      (λ h. rw (le-ltb seg (count_of b r) h))
      (λ h. ⊎_elim
      (λ l. absurd (f (record { seg_in = h; els_in = l })))
      (λ l. rw (lt-ltb seg (count_of b r) h, lt-leb (el + n) (used_of size b r seg) l))
      (le_or_lt (el + n) (used_of size b r seg)))
      (le_or_lt (count_of b r) seg)

  pub range_at_in : {p : ℕ} → range_at size b r seg el n ≡ Some p → Ranges size b r seg el n × (p ≡ place_of size b r seg el)
  range_at_in {p} q = go (ranges? size b r seg el n)
    where
      go : Dec (Ranges size b r seg el n) → Ranges size b r seg el n × (p ≡ place_of size b r seg el)
      go (yes h) = (h, (let e = range_at_yes h in cc))
      go (no f) = absurd (no_place (sym q ∙ range_at_no f))

  pub range-at-out : range_at size b r seg el n ≡ None → Ranges size b r seg el n → ⊥
  range-at-out q h = no_place (sym (range_at_yes h) ∙ q)
