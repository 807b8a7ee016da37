-- Laws of specs/Text.antt. Assumes nothing.
use Prim.Native.Nat.{ℕ, zero, suc, ◌+◌, ◌*◌, ◌≤◌, ◌<◌}
use native.Mathlib.Nat.{not-suc-le-zero, le_of_suc-le-suc}
use native.Mathlib.Numerals.{add-one}
use native.Mathlib.Decide.{ℕ_discrete}
use native.Mathlib.Omega.{arith}
use mathlib.Core.Path.{◌≡◌, refl, ap, sym, ◌∙◌}
use mathlib.Core.Bool.{Bool, cond}
use mathlib.Core.Logic.{◌⊎◌, inl, inr, ⊎_elim, by_cases}
use mathlib.Core.List.{List, [], ◌∷◌}
use borrow.Author.Tests.{eq-eqb, ne_eqb}
use lib.ListN.{length, get_or}
use Rattle.le.specs.Le.{u16_at}
use Rattle.region.specs.Region.{Laid, Resolves, place_of, end_of}
use Rattle.region.proofs.Laws.{segment_end}
use Rattle.text.specs.Text.{chars, up_to_zero, text_in, room_at, HoldsZero}

-- ---- characters

module _ (b : List ℕ) (p : ℕ) where
  pub chars-none : (n : ℕ) → n ≡ 0 → chars b p n ≡ []
  unfolding chars
  chars-none n h = ap (chars b p) h

  pub chars_more : (n m : ℕ) → n ≡ m + 1 → chars b p n ≡ u16_at b p ∷ chars b (p + 2) m
  unfolding chars
  chars_more n m h = ap (chars b p) (h ∙ add-one m)

pub length-chars : (b : List ℕ) (p n : ℕ) → length (chars b p n) ≡ n
unfolding chars
length-chars b p zero = refl
length-chars b p (suc n) = ap suc (length-chars b (p + 2) n)

pub chars-at : (b : List ℕ) (p n i : ℕ) → i < n → get_or (chars b p n) i 0 ≡ u16_at b (p + 2 * i)
unfolding chars
chars-at b p zero i h = absurd (not-suc-le-zero h)
chars-at b p (suc n) zero h = let e : p ≡ p + 2 * 0 = omega arith in ap (u16_at b) e
chars-at b p (suc n) (suc i) h =
    let e : p + 2 + 2 * i ≡ p + 2 * suc i = omega arith in
    chars-at b (p + 2) n i (le_of_suc-le-suc h) ∙ ap (u16_at b) e

-- ---- texts

pub up_stop : (c : ℕ) (cs : List ℕ) → c ≡ 0 → up_to_zero (c ∷ cs) ≡ []
unfolding up_to_zero
up_stop c cs h = ap (λ (t : Bool). cond t [] (c ∷ up_to_zero cs)) (eq-eqb c 0 h)

pub up_more : (c : ℕ) (cs : List ℕ) → (c ≡ 0 → ⊥) → up_to_zero (c ∷ cs) ≡ c ∷ up_to_zero cs
unfolding up_to_zero
up_more c cs h = ap (λ (t : Bool). cond t [] (c ∷ up_to_zero cs)) (ne_eqb c 0 h)

module _ (b : List ℕ) (p : ℕ) where
  pub text-none : (n : ℕ) → n ≡ 0 → text_in b p n ≡ []
  unfolding text_in up_to_zero
  text-none n h = ap up_to_zero (chars-none b p n h)

  pub text_more : (n m : ℕ) → n ≡ m + 1 → (u16_at b p ≡ 0 → ⊥) → text_in b p n ≡ u16_at b p ∷ text_in b (p + 2) m
  unfolding text_in
  text_more n m h q = ap up_to_zero (chars_more b p n m h) ∙ up_more (u16_at b p) (chars b (p + 2) m) q

  pub text_stop : (n : ℕ) → u16_at b p ≡ 0 → text_in b p n ≡ []
  unfolding text_in chars
  text_stop zero q = text-none zero refl
  text_stop (suc n) q = up_stop (u16_at b p) (chars b (p + 2) n) q

-- a text is so many characters as it is long
pub text-chars : (b : List ℕ) (p n : ℕ) → text_in b p n ≡ chars b p (length (text_in b p n))
unfolding chars
text-chars b p zero = rw (text-none b p zero refl) refl
text-chars b p (suc n) =
    by_cases (ℕ_discrete (u16_at b p) 0)
    (λ q. rw (text_stop b p (suc n) q) refl)
    (λ q. rw (text_more b p (suc n) n (sym (add-one n)) q) (ap (λ (l : List ℕ). u16_at b p ∷ l) (text-chars b (p + 2) n)))

-- where a character is left, it ends the text or is its first
text_step : (b : List ℕ) (p n : ℕ)
    → ((u16_at b p ≡ 0) × (length (text_in b p (suc n)) ≡ 0))
    ⊎ ((u16_at b p ≡ 0 → ⊥) × (length (text_in b p (suc n)) ≡ suc (length (text_in b (p + 2) n))))
text_step b p n =
    by_cases (ℕ_discrete (u16_at b p) 0)
    (λ q. inl (q, ap length (text_stop b p (suc n) q)))
    (λ q. inr (q, ap length (text_more b p (suc n) n (sym (add-one n)) q)))

pub text_length_le : (b : List ℕ) (p n : ℕ) → length (text_in b p n) ≤ n
text_length_le b p zero = omega (arith, ap length (text-none b p zero refl))
text_length_le b p (suc n) = ⊎_elim (λ s. omega arith) (λ s. omega (arith, text_length_le b (p + 2) n)) (text_step b p n)

-- none of its characters is 0
pub text-live : (b : List ℕ) (p n i : ℕ) → i < length (text_in b p n) → u16_at b (p + 2 * i) ≡ 0 → ⊥
text-live b p zero i h z = omega (arith, text_length_le b p zero)
text-live b p (suc n) zero h z =
    let d : p ≡ p + 2 * 0 = omega arith in ⊎_elim (λ s. omega arith) (λ s. s.0 (ap (u16_at b) d ∙ z)) (text_step b p n)
text-live b p (suc n) (suc i) h z =
    let d : p + 2 + 2 * i ≡ p + 2 * suc i = omega arith in
    ⊎_elim (λ s. omega arith) (λ s. text-live b (p + 2) n i (omega arith) (ap (u16_at b) d ∙ z)) (text_step b p n)

-- the character behind it is 0, if one is left
pub text_end : (b : List ℕ) (p n : ℕ) → length (text_in b p n) < n → u16_at b (p + 2 * length (text_in b p n)) ≡ 0
text_end b p zero h = absurd (not-suc-le-zero h)
text_end b p (suc n) h =
    ⊎_elim
    (λ s. let d : p + 2 * length (text_in b p (suc n)) ≡ p = omega arith in ap (u16_at b) d ∙ s.0)
    (λ s. let d : p + 2 * length (text_in b p (suc n)) ≡ p + 2 + 2 * length (text_in b (p + 2) n) = omega arith in
    ap (u16_at b) d ∙ text_end b (p + 2) n (omega arith))
    (text_step b p n)

-- ---- at an address

module _ (b : List ℕ) (r seg el : ℕ) where
  -- an address that resolves has at least one character left, and all that are left lie in the file
  pub room-some : Resolves 2 b r seg el → 0 < room_at b r seg el
  unfolding room_at
  room-some h = omega arith

  pub room_within : Laid 2 b r → Resolves 2 b r seg el → place_of 2 b r seg el + 2 * room_at b r seg el ≤ end_of 2 b r
  unfolding place_of room_at
  room_within l h = omega (arith, l.used seg h.seg_in, segment_end 2 b r seg h.seg_in)

  pub room_fits : Laid 2 b r → Resolves 2 b r seg el → place_of 2 b r seg el + 2 * room_at b r seg el ≤ length b
  unfolding place_of room_at
  room_fits l h = omega (arith, l.used seg h.seg_in, l.fits seg h.seg_in)

-- ---- a text that is asked for

module _ (b : List ℕ) (p n : ℕ) where
  -- a 0 at i
  pub zero_held : (i w : ℕ) → i < n → w ≡ u16_at b (p + 2 * i) → w ≡ 0 → HoldsZero (chars b p n)
  zero_held i w l e z = (i, omega (arith, l, length-chars b p n), chars-at b p n i l ∙ sym e ∙ z)

  -- none anywhere
  pub zero-nowhere : ((i : ℕ) → i < n → u16_at b (p + 2 * i) ≡ 0 → ⊥) → HoldsZero (chars b p n) → ⊥
  zero-nowhere f w = let l : w.0 < n = omega (arith, w.1, length-chars b p n) in f w.0 l (sym (chars-at b p n w.0 l) ∙ w.2)
