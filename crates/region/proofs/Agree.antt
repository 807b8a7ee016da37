-- The facts about a region depend only on its counts and on the length of the file, so they hold after a change of four bytes that touches
-- no count. Groundwork for request T-12. Assumes nothing.
use Prim.Native.Nat.{ℕ, zero, suc, ◌+◌, ◌-◌, ◌≤◌, ◌<◌}
use native.Mathlib.Omega.{arith}
use native.Mathlib.Nat.{add-zero, add-mul, mul-le-mul_right}
use mathlib.Core.Path.{◌≡◌, refl, sym, ◌∙◌}
use mathlib.Core.Logic.{◌⊎◌, inl, inr, ⊎_elim}
use mathlib.Core.List.{List}
use lib.ListN.{length}
use Rattle.laws.proofs.Order.{le_or_lt}
use Rattle.le.specs.Le.{u32_at}
use Rattle.le.proofs.Agree.{Agree, Off, u32_same}
use Rattle.region.specs.Region.{count_of, start_of, full_of, used_of, end_of, before_of, total_of, place_of, Resolves, Ranges, Reaches, Laid, used_from, all_used}
use Rattle.region.specs.inner.Samples.{Mapped, Starts, Counts}
use Rattle.region.specs.declared.Region.{Region}
use Rattle.region.proofs.Laws.{start_next}

-- the region at r has the same counts and starts in both files
pub record Alike (size : ℕ) (b c : List ℕ) (r : ℕ) : Type 0 where
  pub long : length c ≡ length b
  pub count : count_of c r ≡ count_of b r
  pub start : (s : ℕ) → start_of size c r s ≡ start_of size b r s
  pub full : (s : ℕ) → full_of size c r s ≡ full_of size b r s
  pub used : (s : ℕ) → used_of size c r s ≡ used_of size b r s

pub alike_back : {size : ℕ} {b c : List ℕ} {r : ℕ} → Alike size b c r → Alike size c b r
alike_back a =
    record {
      long = sym a.long;
      count = sym a.count;
      start = λ s. sym (a.start s);
      full = λ s. sym (a.full s);
      used = λ s. sym (a.used s);
    }

-- what follows from that
module _ {size : ℕ} {b c : List ℕ} {r : ℕ} (a : Alike size b c r) where
  pub end_same : end_of size c r ≡ end_of size b r
  unfolding end_of
  end_same = rw a.count (a.start (count_of b r))

  pub place_same : (seg el : ℕ) → place_of size c r seg el ≡ place_of size b r seg el
  unfolding place_of
  place_same seg el = rw (a.start seg)

  before_same : (s : ℕ) → before_of size c r s ≡ before_of size b r s
  unfolding before_of
  before_same zero = refl
  before_same (suc s) = rw (before_same s, a.used s)

  pub total_same : total_of size c r ≡ total_of size b r
  unfolding total_of
  total_same = rw a.count (before_same (count_of b r))

  pub resolves_same : (seg el : ℕ) → Resolves size b r seg el → Resolves size c r seg el
  resolves_same seg el h = record { seg_in = rw a.count h.seg_in; el_in = rw (a.used seg) h.el_in }

  ranges-same : (seg el n : ℕ) → Ranges size b r seg el n → Ranges size c r seg el n
  ranges-same seg el n h = record { seg_in = rw a.count h.seg_in; els_in = rw (a.used seg) h.els_in }

  pub reaches_same : (seg el n : ℕ) → Reaches size b r seg el n → Reaches size c r seg el n
  reaches_same seg el n h = ⊎_elim inl (λ g. inr (ranges-same seg el n g)) h

  pub laid_same : Laid size b r → Laid size c r
  laid_same g =
      record {
        head = rw a.long g.head;
        few = rw a.count g.few;
        full = λ s h. rw (a.full s) (g.full s (rw a.count at h));
        used = λ s h. rw (a.full s, a.used s) (g.used s (rw a.count at h));
        fits = λ s h. rw (a.long, a.start s, a.full s) (g.fits s (rw a.count at h));
      }

  -- what the view keeps of the region stays right
  pub mapped-same : {m : Region} → Mapped size b r m → Mapped size c r m
  mapped-same g =
      record {
        solid = g.solid;
        thin = g.thin;
        short = rw a.long g.short;
        at_is = g.at_is;
        count_is = g.count_is ∙ sym a.count;
        laid = laid_same g.laid;
        stride = g.stride;
      }

  pub starts_kept : {shift : ℕ} {xs : List ℕ} → Starts size b r shift xs → Starts size c r shift xs
  starts_kept g = record { long = g.long; sampled = record { at = λ k l. g.sampled.at k (rw a.count at l) ∙ sym (a.start _) } }

  pub counts_kept : {shift : ℕ} {xs : List ℕ} → Counts size b r shift xs → Counts size c r shift xs
  counts_kept g = record { long = g.long; sampled = record { at = λ k l. g.sampled.at k (rw a.count at l) ∙ sym (before_same _) } }

  -- the used elements, in file order
  from-same : (s k : ℕ) → used_from size c r s k ≡ used_from size b r s k
  unfolding used_from
  from-same s zero = refl
  from-same s (suc k) = rw (a.used s, from-same (suc s) k)

  pub all_same : all_used size c r ≡ all_used size b r
  unfolding all_used
  all_same = rw a.count (from-same 0 (count_of b r))

-- segments start in ascending order
module _ (size : ℕ) (b : List ℕ) (r : ℕ) where
  starts_from : (s k : ℕ) → start_of size b r s ≤ start_of size b r (s + k)
  starts_from s zero = rw (add-zero s) (omega arith)
  starts_from s (suc k) = let e : s + suc k ≡ s + k + 1 = omega arith in rw e (omega (arith, start_next size b r (s + k), starts_from s k))

  pub start_order : (s t : ℕ) → s ≤ t → start_of size b r s ≤ start_of size b r t
  start_order s t h = let e : t ≡ s + (t - s) = omega arith in rw e (starts_from s (t - s))

  pub start_behind : (s : ℕ) → r + 4 ≤ start_of size b r s
  unfolding start_of
  start_behind s = start_order 0 s (omega arith)

  pub place-from : (s e : ℕ) → start_of size b r s + 8 ≤ place_of size b r s e
  unfolding place_of
  place-from s e = omega arith

-- two used elements do not overlap
module _ {size : ℕ} {b : List ℕ} {r : ℕ} (g : Laid size b r) where
  pub place-within : (s e : ℕ) → Resolves size b r s e → place_of size b r s e + size ≤ start_of size b r (s + 1)
  unfolding place_of
  place-within s e h =
      omega (arith, start_next size b r s, add-mul e 1 size, mul-le-mul_right {m = e + 1} {n = full_of size b r s} size (omega (arith, h.el_in, g.used s h.seg_in)))

  next_place : (s e f : ℕ) → e < f → place_of size b r s e + size ≤ place_of size b r s f
  unfolding place_of
  next_place s e f l = omega (arith, add-mul e 1 size, mul-le-mul_right {m = e + 1} {n = f} size (omega arith))

  later-place : (s e t f : ℕ) → Resolves size b r s e → s < t → place_of size b r s e + size ≤ place_of size b r t f
  later-place s e t f h l = let p = place-within s e h in let q = start_order size b r (s + 1) t (omega arith) in let z = place-from size b r t f in omega arith

  pub places-apart : (s e t f : ℕ) → Resolves size b r s e → Resolves size b r t f
      → ((s ≡ t) × (e ≡ f)) ⊎ ((place_of size b r s e + size ≤ place_of size b r t f) ⊎ (place_of size b r t f + size ≤ place_of size b r s e))
  places-apart s e t f h l =
      ⊎_elim
      (λ st. ⊎_elim
      (λ ts.
      let q : s ≡ t = omega arith in
      ⊎_elim
      (λ ef. ⊎_elim
      (λ fe. inl (q, omega arith))
      (λ lt. inr (inl (rw (sym q) (next_place s e f lt))))
      (le_or_lt f e))
      (λ gt. inr (inr (rw (sym q) (next_place s f e gt))))
      (le_or_lt e f))
      (λ lt. inr (inl (later-place s e t f h lt)))
      (le_or_lt t s))
      (λ gt. inr (inr (later-place t f s e l gt)))
      (le_or_lt s t)

-- the four bytes touch no count of the region
pub record Clear (size : ℕ) (b : List ℕ) (r x : ℕ) : Type 0 where
  pub head : Off x r 4
  pub segment : (s : ℕ) → Off x (start_of size b r s) 8

-- that is so where they stand before the region, or among the elements of one of its segments
pub clear_behind : (size : ℕ) (b : List ℕ) (r x : ℕ) → x + 4 ≤ r → Clear size b r x
clear_behind size b r x h = record { head = inr h; segment = λ s. inr (omega (arith, start_behind size b r s)) }

pub clear_within : (size : ℕ) (b : List ℕ) (r x seg : ℕ) → start_of size b r seg + 8 ≤ x → x + 4 ≤ start_of size b r (seg + 1) → Clear size b r x
clear_within size b r x seg h l =
    record {
      head = inl (omega (arith, start_behind size b r seg));
      segment = λ s. ⊎_elim
          (λ d. inl (omega (arith, start_order size b r s seg d)))
          (λ d. inr (omega (arith, start_order size b r (seg + 1) s (omega arith))))
          (le_or_lt s seg);
    }

module _ {b c : List ℕ} {x : ℕ} (a : Agree b c x) (size r : ℕ) (h : Clear size b r x) where
  full_off : (s : ℕ) → u32_at c (start_of size b r s) ≡ u32_at b (start_of size b r s)
  full_off s = u32_same a _ (⊎_elim (λ d. inl (omega arith)) (λ d. inr (omega arith)) (h.segment s))

  used_off : (s : ℕ) → u32_at c (start_of size b r s + 4) ≡ u32_at b (start_of size b r s + 4)
  used_off s = u32_same a _ (⊎_elim (λ d. inl (omega arith)) (λ d. inr (omega arith)) (h.segment s))

  starts_same : (s : ℕ) → start_of size c r s ≡ start_of size b r s
  unfolding start_of
  starts_same zero = refl
  starts_same (suc s) = rw (starts_same s, full_off s)

  pub alike : Alike size b c r
  unfolding count_of full_of used_of
  alike =
      record {
        long = a.long;
        count = u32_same a r h.head;
        start = starts_same;
        full = λ s. rw (starts_same s) (full_off s);
        used = λ s. rw (starts_same s) (used_off s);
      }
