-- The offset of a line, digit by digit. Assumes nothing.
use mathlib.Core.Path.{◌≡◌, refl, sym, ap, ◌∙◌}
use mathlib.Core.Bool.{true, false, cond, ◌&&◌}
use mathlib.Core.List.{List, ◌∷◌}
use Prim.Native.Nat.{ℕ, suc, ◌+◌, ◌-◌, ◌*◌, ◌^◌, ◌≤◌, ◌<◌}
use native.Mathlib.Nat.{add-zero, pow-suc, pow-le-pow_right}
use native.Mathlib.Omega.{arith}
use native.Mathlib.Numerals.{add-one}
use lib.Dec.{eqb, lit<}
use lib.ListN.{length, get_or, take, drop}
use lib.Seq.{get_or-drop}
use borrow.Author.Tests.{eq-eqb, ne_eqb}
use Rattle.laws.proofs.Drops.{drop_next}
use Rattle.std.specs.Prelude.{Option, Some, None}
use Rattle.frames.specs.Lines.{is_digit, digit_of, digits, number_from}
use Rattle.frames.specs.inner.Reading.{value_of, offset_of}
use Rattle.frames.proofs.Digits.{value_inv, none_inv}

-- the offset where x is the number of the digits before, and k digits are left
unfoldable pub offset_left : ℕ → ℕ → List ℕ → Option ℕ
offset_left x k s = cond (digits (take k s) && eqb (get_or s k 0) 32) (Some (number_from x (take k s))) None

left_more : (x k c : ℕ) (s : List ℕ) → is_digit c ≡ true → offset_left x (suc k) (c ∷ s) ≡ offset_left (x * 16 + digit_of c) k s
unfolding offset_left digits number_from
left_more x k c s h = simp h

left_other : (x k c : ℕ) (s : List ℕ) → is_digit c ≡ false → offset_left x (suc k) (c ∷ s) ≡ None
unfolding offset_left digits
left_other x k c s h = simp h

left_none : (x : ℕ) (s : List ℕ) → offset_left x 0 s ≡ cond (eqb (get_or s 0 0) 32) (Some x) None
unfolding offset_left digits number_from
left_none x s = refl

one_less : (i : ℕ) → i < 8 → 8 - i ≡ suc (8 - (i + 1))
one_less i h = omega arith

digits_more : (x i d : ℕ) → x < 16 ^ i → d ≤ 15 → x * 16 + d < 16 ^ (i + 1)
digits_more x i d h b = omega (arith, pow-suc 16 i, ap (λ (k : ℕ). 16 ^ k) (add-one i))

-- i digits from p on are read, and x is the number that they write
pub record Offset (s : List ℕ) (p x i : ℕ) : Type 0 where
  pub few : i ≤ 8
  pub room : p + 9 ≤ length s
  pub small : x < 16 ^ i
  pub whole : offset_of (drop p s) ≡ offset_left x (8 - i) (drop (p + i) s)

module _ {s : List ℕ} {p : ℕ} where
  pub offset_start : p + 9 ≤ length s → Offset s p 0 0
  unfolding offset_of offset_left
  offset_start h = record { few = omega arith; room = h; small = omega arith; whole = rw add-zero }

  module _ {x i : ℕ} (h : Offset s p x i) where
    pub offset_fits : x < 2 ^ 32
    offset_fits = let e : 16 ^ i ≤ 16 ^ 8 = pow-le-pow_right (lit< tt) h.few in omega (arith, h.small)

    pub offset_more : {d : ℕ} → i < 8 → Some d ≡ value_of (get_or s (p + i) 0) → Offset s p (x * 16 + d) (i + 1)
    offset_more {d} b q =
        let v = value_inv (get_or s (p + i) 0) d q in
        let n : p + i + 1 ≡ p + (i + 1) = omega arith in
        let c : ℕ = get_or s (p + i) 0 in
        let t : List ℕ = drop (p + (i + 1)) s in
        let o : p + i < length s = omega (arith, h.room) in
        let w : offset_left x (8 - i) (drop (p + i) s) ≡ offset_left (x * 16 + d) (8 - (i + 1)) t =
        rw (one_less i b, drop_next s (p + i) o, n, v.is) (left_more x (8 - (i + 1)) c t v.digit) in
        record { few = omega arith; room = h.room; small = digits_more x i d h.small v.small; whole = h.whole ∙ w }

    pub offset_other : i < 8 → None ≡ value_of (get_or s (p + i) 0) → None ≡ offset_of (drop p s)
    offset_other b e =
        let c : ℕ = get_or s (p + i) 0 in
        let o : p + i < length s = omega (arith, h.room) in
        let w : offset_left x (8 - i) (drop (p + i) s) ≡ None =
        rw (one_less i b, drop_next s (p + i) o) (left_other x (8 - (i + 1)) c (drop (p + i + 1) s) (none_inv c e)) in
        sym (h.whole ∙ w)

    all_read : 8 ≤ i → offset_of (drop p s) ≡ cond (eqb (get_or s (p + 8) 0) 32) (Some x) None
    all_read b =
        let e : i ≡ 8 = omega (arith, h.few) in
        let g : get_or (drop (p + 8) s) 0 0 ≡ get_or s (p + 8) 0 = get_or-drop (p + 8) s 0 0 ∙ ap (λ (j : ℕ). get_or s j 0) (add-zero (p + 8)) in
        h.whole ∙ ap (λ (j : ℕ). offset_left x (8 - j) (drop (p + j) s)) e ∙ left_none x (drop (p + 8) s) ∙ rw g

    pub offset_end : 8 ≤ i → get_or s (p + 8) 0 ≡ 32 → Some x ≡ offset_of (drop p s)
    offset_end b e = sym (all_read b ∙ simp (eq-eqb (get_or s (p + 8) 0) 32 e))

    pub offset_spaceless : 8 ≤ i → (get_or s (p + 8) 0 ≡ 32 → ⊥) → None ≡ offset_of (drop p s)
    offset_spaceless b e = sym (all_read b ∙ simp (ne_eqb (get_or s (p + 8) 0) 32 e))
