-- The texts of Text by the steps of the code: spaces, digits, characters. Assumes nothing.
use Prim.Native.Nat.{ℕ, zero, suc, ◌+◌, ◌-◌, ◌*◌, ◌/◌, ◌%◌, ◌^◌, ◌≤◌, ◌<◌}
use native.Mathlib.Nat.{pow-suc, div-lt_iff_lt-mul, sub-zero}
use native.Mathlib.Numerals.{add-one, sub-one}
use native.Mathlib.Omega.{arith}
use mathlib.Core.Path.{◌≡◌, refl, sym, ap, ◌∙◌}
use mathlib.Core.List.{List, [], ◌∷◌, ◌++◌}
use mathlib.Core.Bool.{true, false, true≢false, cond}
use borrow.Author.Tests.{le-ltb, lt-ltb, leb-false}
use lib.Dec.{ltb}
use lib.IntN.{ℤ, pos, negsuc, nat_abs}
use lib.Signed.{le_z}
use Rattle.std.proofs.lemmas.Bool.Decides.{nat_tests}
use lib.ListN.{replicate}
use lib.Pow.{pow-add}
use lib.Bits.{and_mask, mask_lt, bit_and}
use Rattle.print.specs.Text.{hex_digit, hex_of, plain, escape, decimal_in, decimal, whole_text}

-- ---- spaces

pub space_all : (n : ℕ) → replicate {A = ℕ} (n - 0) 32 ≡ replicate n 32
space_all n = rw sub-zero

pub space_more : (n i : ℕ) → i < n → ◌++◌ {A = ℕ} (32 ∷ []) (replicate (n - (i + 1)) 32) ≡ replicate (n - i) 32
space_more n i h = let e : n - i ≡ suc (n - (i + 1)) = omega arith in sym (ap (λ (k : ℕ). replicate {A = ℕ} k 32) e)

pub space_none : (n i : ℕ) → n ≤ i → replicate {A = ℕ} (n - i) 32 ≡ []
space_none n i h = let e : n - i ≡ 0 = omega arith in ap (λ (k : ℕ). replicate {A = ℕ} k 32) e

-- ---- hex digits

pow_four : (i : ℕ) → 2 ^ (4 * i) ≡ 16 ^ i
pow_four zero = refl
pow_four (suc i) =
    let e : 4 * suc i ≡ 4 * i + 4 = omega arith in
    ap (λ (k : ℕ). 2 ^ k) e ∙ pow-add 2 (4 * i) 4 ∙ ap (λ (k : ℕ). k * 16) (pow_four i) ∙ sym (pow-suc 16 i)

-- the digit that the shift and the mask take
digit_shift : (x i : ℕ) → bit_and (x / 2 ^ (4 * i)) 15 ≡ x / 16 ^ i % 16
digit_shift x i = and_mask (x / 2 ^ (4 * i)) 4 ∙ ap (λ (k : ℕ). x / k % 16) (pow_four i)

pub digit_low : (x i : ℕ) → bit_and (x / 2 ^ (4 * i)) 15 < 10 → 48 + bit_and (x / 2 ^ (4 * i)) 15 ≡ hex_digit (x / 16 ^ i % 16)
unfolding hex_digit
digit_low x i h = rw (← digit_shift x i) (sym (rw (lt-ltb _ 10 h)))

pub digit_high : (x i : ℕ) → 10 ≤ bit_and (x / 2 ^ (4 * i)) 15 → 87 + bit_and (x / 2 ^ (4 * i)) 15 ≡ hex_digit (x / 16 ^ i % 16)
unfolding hex_digit
digit_high x i h = rw (← digit_shift x i) (sym (rw (le-ltb _ 10 h)))

pub digit_lt : (x i : ℕ) → bit_and (x / 2 ^ (4 * i)) 15 < 16
digit_lt x i = mask_lt (x / 2 ^ (4 * i)) 4

pub hex_more : (x i d : ℕ) → 0 < i → d ≡ hex_digit (x / 16 ^ (i - 1) % 16) → (d ∷ []) ++ hex_of (i - 1) x ≡ hex_of i x
unfolding hex_of
hex_more x zero d h e = absurd (omega arith)
hex_more x (suc i) d h e = rw (e, sub-one)

pub hex_none : (x i : ℕ) → i ≤ 0 → hex_of i x ≡ []
unfolding hex_of
hex_none x i h = let e : i ≡ 0 = omega arith in rw e

-- ---- decimal digits

-- more room for digits changes nothing where one digit's room is left
more_room : (n x : ℕ) → x < 10 ^ suc n → decimal_in (suc n) x ≡ decimal_in (suc (suc n)) x
unfolding decimal_in
more_room zero x h = let l : x < 10 = h in rw (lt-ltb x 10 l)
more_room (suc n) x h =
    let l : x / 10 < 10 ^ suc n = (div-lt_iff_lt-mul {k = 10} (omega arith)).1 (rw (pow-suc 10 (suc n)) at h) in
    ap (λ (t : List ℕ). cond (ltb x 10) ((48 + x) ∷ []) (t ++ ((48 + x % 10) ∷ []))) (more_room n (x / 10) l)

decimal-last : (n x : ℕ) → 10 ≤ x → decimal_in n (x / 10) ++ ((48 + x % 10) ∷ []) ≡ decimal_in (suc n) x
unfolding decimal_in
decimal-last n x h = sym (rw (le-ltb x 10 h))

pub decimal-one : (x : ℕ) → x < 10 → (48 + x) ∷ [] ≡ decimal x
unfolding decimal decimal_in
decimal-one x h = sym (rw (lt-ltb x 10 h))

decimal_step : (n x : ℕ) → 10 ≤ x → x < 10 ^ suc (suc n) → decimal_in (suc (suc n)) (x / 10) ++ ((48 + x % 10) ∷ []) ≡ decimal_in (suc (suc n)) x
decimal_step n x h l =
    let k : x / 10 < 10 ^ suc n = (div-lt_iff_lt-mul {k = 10} (omega arith)).1 (rw (pow-suc 10 (suc n)) at l) in
    ap (λ (t : List ℕ). t ++ ((48 + x % 10) ∷ [])) (sym (more_room n (x / 10) k)) ∙ decimal-last (suc n) x h

pub decimal_more : (x : ℕ) → 10 ≤ x → x < 2 ^ 64 → decimal (x / 10) ++ ((48 + x % 10) ∷ []) ≡ decimal x
unfolding decimal
decimal_more x h l = let k : x < 100000000000000000000 = omega arith in decimal_step 18 x h k

-- ---- whole numbers, as z is read from its bits

up : (z : ℤ) → le_z (pos 0) z ≡ true → decimal (nat_abs z) ≡ whole_text z
unfolding whole_text
up (pos n) e = refl
up (negsuc n) e = absurd (true≢false (sym e))

pub whole-up : (u z : ℤ) (n : ℕ) → u ≡ z → le_z (pos 0) u ≡ true → n ≡ nat_abs u → decimal n ≡ whole_text z
whole-up u z n t e m = ap decimal m ∙ up u e ∙ ap whole_text t

down : (z : ℤ) → le_z (pos 0) z ≡ false → (45 ∷ []) ++ decimal (nat_abs z) ≡ whole_text z
unfolding whole_text
down (pos n) e = absurd (omega (arith, leb-false 0 n e))
down (negsuc n) e = rw add-one

pub whole-down : (u z : ℤ) (n : ℕ) → u ≡ z → le_z (pos 0) u ≡ false → n ≡ nat_abs u → (45 ∷ []) ++ decimal n ≡ whole_text z
whole-down u z n t e m = ap (λ (k : ℕ). (45 ∷ []) ++ decimal k) m ∙ down u e ∙ ap whole_text t

-- ---- characters

pub plain-small : (c : ℕ) → plain c ≡ true → c < 127
unfolding plain
plain-small c e = grind (arith, nat_tests)

pub escape-plain : (c : ℕ) → plain c ≡ true → c ∷ [] ≡ escape c
unfolding escape
escape-plain c e = sym (rw e)

pub escape_other : (c : ℕ) → plain c ≡ false → (0x5c ∷ []) ++ hex_of 4 c ≡ escape c
unfolding escape
escape_other c e = sym (rw e)
