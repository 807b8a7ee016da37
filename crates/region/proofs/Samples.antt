-- Laws of specs/inner/Samples.antt. Assumes nothing.
use Prim.Native.Nat.{ℕ, zero, suc, ◌+◌, ◌-◌, ◌*◌, ◌/◌, ◌%◌, ◌^◌, ◌≤◌, ◌<◌}
use native.Mathlib.Nat.{mul-mod_left, div-add-mod', mul-div_cancel, div-lt_iff_lt-mul, mod-le, not-suc-le-zero, pow-suc, pow-le-pow_right}
use native.Mathlib.Numerals.{add-one}
use mathlib.Core.Path.{◌≡◌, refl, ap, sym, ◌∙◌}
use mathlib.Core.List.{List}
use mathlib.Core.Logic.{◌⊎◌, inl, inr, ⊎_elim}
use native.Mathlib.Omega.{arith}
use lib.ListN.{length, get_or, set, length-set}
use lib.Seq.{get_or-set_same, get_or-set_other}
use lib.Bits.{bit_and, and_mask}
use lib.Dec.{lit<}
use lib.Pow.{pow_pos}
use Rattle.le.specs.Le.{u32_at}
use Rattle.region.specs.Region.{start_of, full_of, used_of, before_of, place_of}
use Rattle.region.specs.inner.Samples.{Sampled, Stride, Mapped}
use Rattle.region.specs.declared.Region.{Region}
use Rattle.laws.proofs.Order.{le_or_lt}
use Rattle.region.proofs.Laws.{start_next, before_next, before-low}

positive : (a : ℕ) → (a ≡ 0 → ⊥) → 0 < a
positive zero f = absurd (f refl)
positive (suc a) f = omega arith

module _ (f : ℕ → ℕ) (m : ℕ) where
  pub sampled-none : (xs : List ℕ) → Sampled f m 0 xs
  sampled-none xs = record { at = λ k h. absurd (not-suc-le-zero h) }

  pub sampled_skip : (n : ℕ) (xs : List ℕ) → 0 < n % m → Sampled f m n xs → Sampled f m (n + 1) xs
  sampled_skip n xs h t =
      record {
        at = λ k l.
            ⊎_elim
            (λ ge. let e : k * m ≡ n = omega arith in absurd (omega (arith, ap (λ (y : ℕ). y % m) e, mul-mod_left k m)))
            (λ lt. t.at k lt)
            (le_or_lt n (k * m));
      }

  pub sampled-set : (n x : ℕ) (xs : List ℕ) → 0 < m → n % m ≡ 0 → x ≡ f n → n / m < length xs → Sampled f m n xs → Sampled f m (n + 1) (set xs (n / m) x)
  sampled-set n x xs z h q l t =
      let d : n / m * m ≡ n = omega (arith, div-add-mod' n m) in
      record {
        at = λ k g.
            ⊎_elim
            (λ ge.
            let e : k * m ≡ n = omega arith in
            let kn : k ≡ n / m = sym (mul-div_cancel k z) ∙ ap (λ (y : ℕ). y / m) e in
            ap (λ (i : ℕ). get_or (set xs (n / m) x) i 0) kn ∙ get_or-set_same xs (n / m) x 0 l ∙ q ∙ ap f (sym e))
            (λ lt.
            get_or-set_other xs (n / m) k x 0 (λ kn. absurd (omega (arith, ap (λ (y : ℕ). y * m) kn)))
            ∙ t.at k lt)
            (le_or_lt n (k * m));
      }

-- the exponent of a power of two, by the powers beside it
exponent_is : (k s : ℕ) → 2 ^ s ≤ 2 ^ k → 2 ^ k < 2 * 2 ^ s → 2 ^ k ≡ 2 ^ s
exponent_is k s l u =
    let w = pow-suc 2 s in
    let d = ap (λ (x : ℕ). 2 ^ x) (add-one s) in
    ⊎_elim
    (λ g. ⊎_elim (λ h. absurd (omega (arith, l, u, w, d, pow-le-pow_right {n = 2} (lit< tt) {i = s + 1} {j = k} h))) (λ h. ap (λ (x : ℕ). 2 ^ x) (omega (arith, g, h))) (le_or_lt (s + 1) k))
    (λ g. absurd (omega (arith, l, u, w, d, pow-le-pow_right {n = 2} (lit< tt) {i = k + 1} {j = s} (omega (arith, g)), pow-suc 2 k, ap (λ (x : ℕ). 2 ^ x) (add-one k), pow_pos k)))
    (le_or_lt s k)

-- the least power of two that reaches, which is at most 64, and its exponent
pub stride_made : (count p k s : ℕ) → p ≡ 2 ^ k → count ≤ p * 1024 → p / 2 < 64 → 2 ^ s ≤ p → p < 2 * 2 ^ s → Stride count s (p - 1)
stride_made count p k s e r m l u =
    let q : p ≡ 2 ^ s = e ∙ exponent_is k s (rw (sym e) l) (rw (sym e) u) in
    record {
      low = ⊎_elim (λ g. absurd (omega (arith, q, m, pow-le-pow_right {n = 2} (lit< tt) {i = 7} {j = s} g))) (λ g. omega (arith, g)) (le_or_lt 7 s);
      mask_is = omega (arith, q, pow_pos s);
      reach = omega (arith, q, r);
    }

-- a shift and a mask that are right for count segments
module _ {count shift mask : ℕ} (t : Stride count shift mask) where
  pub sample_in : (s : ℕ) → s < count → s / 2 ^ shift < 1024
  sample_in s h = (div-lt_iff_lt-mul {k = 2 ^ shift} {x = s} {y = 1024} (pow_pos shift)).1 (omega (arith, t.reach))

  pub mask_rem : (s : ℕ) → bit_and s mask ≡ s % 2 ^ shift
  mask_rem s = let e : mask ≡ 2 ^ shift - 1 = omega (arith, t.mask_is) in rw e (and_mask s shift)

  pub mask_le : (s : ℕ) → bit_and s mask ≤ s
  mask_le s = omega (arith, mask_rem s, mod-le s (2 ^ shift))

  -- the sample of segment s: what f is at the multiple of the stride before it
  pub sample_read : (f : ℕ → ℕ) (s : ℕ) (xs : List ℕ) {n : ℕ} → s < count → count ≡ n → Sampled f (2 ^ shift) n xs
      → get_or xs (s / 2 ^ shift) 0 ≡ f (s - bit_and s mask)
  sample_read f s xs h q g =
      let d = div-add-mod' s (2 ^ shift) in
      let e : s / 2 ^ shift * 2 ^ shift ≡ s - bit_and s mask = omega (arith, mask_rem s) in
      g.at (s / 2 ^ shift) (omega arith) ∙ ap f e

  -- one turn of a loop that samples f: at a multiple of the stride it sets, elsewhere it goes on
  pub sample_turn : (f : ℕ → ℕ) (s x : ℕ) (xs ys : List ℕ) → s < count → x ≡ f s → length xs ≡ 1024 → Sampled f (2 ^ shift) s xs
      → ((bit_and s mask ≡ 0) × (ys ≡ set xs (s / 2 ^ shift) x)) ⊎ ((bit_and s mask ≡ 0 → ⊥) × (ys ≡ xs))
      → Sampled f (2 ^ shift) (s + 1) ys × (length ys ≡ 1024)
  sample_turn f s x xs ys h q l g (inl w) =
      let i = sample_in s h in
      rw w.1 (sampled-set f _ s x xs (pow_pos shift) (sym (mask_rem s) ∙ w.0) q (omega arith) g, length-set xs (s / 2 ^ shift) x ∙ l)
  sample_turn f s x xs ys h q l g (inr w) = rw w.1 (sampled_skip f _ s xs (positive (s % 2 ^ shift) (λ e. w.0 (mask_rem s ∙ e))) g, l)

module _ (size : ℕ) (b : List ℕ) where
  -- the segment that starts at p lies in the file
  pub segment-fits : (at : ℕ) {r : Region} → Mapped size b at r → (s p : ℕ) → s < r.count → p ≡ start_of size b at s
      → p + 8 + u32_at b p * size ≤ length b
  unfolding full_of
  segment-fits at m s p h q = rw q (m.laid.fits s (omega (arith, m.count_is)))

  -- one segment on
  pub start_more : (at s t p q : ℕ) → t ≡ s + 1 → p ≡ start_of size b at s → q ≡ p + 8 + u32_at b p * size → q ≡ start_of size b at t
  unfolding full_of
  start_more at s t p q e h k = rw (k, e, h) (sym (start_next size b at s))

  pub before_more : (at s t p n x : ℕ) → t ≡ s + 1 → p ≡ start_of size b at s → n ≡ before_of size b at s → x ≡ u32_at b (p + 4) → n + x ≡ before_of size b at t
  unfolding used_of
  before_more at s t p n x e q k l = rw (e, l, q, k) (sym (before_next size b at s))

  pub start_zero : (at : ℕ) → at + 4 ≡ start_of size b at 0
  unfolding start_of
  start_zero at = refl

  pub before-zero : (at : ℕ) → 0 ≡ before_of size b at 0
  unfolding before_of
  before-zero at = refl

  pub count_low : (at : ℕ) {r : Region} → Mapped size b at r → (s n : ℕ) → s ≤ r.count → n ≡ before_of size b at s → n < 2 ^ 32
  count_low at m s n h q = omega (arith, q, before-low size b at m.laid s (omega (arith, m.count_is)))

  -- the used count and the elements of the segment that starts at p
  pub used-at : (at s p x : ℕ) → p ≡ start_of size b at s → x ≡ u32_at b (p + 4) → x ≡ used_of size b at s
  unfolding used_of
  used-at at s p x q k = k ∙ ap (λ (y : ℕ). u32_at b (y + 4)) q

  pub place_at : (at s p el : ℕ) → p ≡ start_of size b at s → p + 8 + el * size ≡ place_of size b at s el
  unfolding place_of
  place_at at s p el q = ap (λ (y : ℕ). y + 8 + el * size) q
