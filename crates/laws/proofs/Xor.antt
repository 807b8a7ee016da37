-- Exclusive or, beyond the kit's own laws. Assumes nothing.
use Prim.Native.Nat.{ℕ, zero, suc, ◌+◌, ◌*◌, ◌/◌, ◌%◌, ◌^◌, ◌<◌}
use native.Mathlib.Nat.{div-add-mod', mod-lt, pow-suc}
use native.Mathlib.Omega.{arith}
use mathlib.Core.Path.{◌≡◌, refl, ap, sym, ◌∙◌}
use lib.Bits.{bit_xor, xor_mod, xor_shr, xor_comm, xor_zero_l, xor_block}
use lib.Pow.{pow_pos}
use lib.Dec.{lit<}

-- a number below 2 is 0 or 1
digit : (P : ℕ → Type 0) → P 0 → P 1 → (x : ℕ) → x < 2 → P x
digit P z o zero h = z
digit P z o (suc zero) h = o
digit P z o (suc (suc x)) h = absurd (omega arith)

digits_assoc : (x y z : ℕ) → x < 2 → y < 2 → z < 2 → bit_xor (bit_xor x y) z ≡ bit_xor x (bit_xor y z)
digits_assoc x y z hx hy hz =
    digit (λ (u : ℕ). bit_xor (bit_xor u y) z ≡ bit_xor u (bit_xor y z))
    (digit (λ (u : ℕ). bit_xor (bit_xor 0 u) z ≡ bit_xor 0 (bit_xor u z))
    (digit (λ (u : ℕ). bit_xor (bit_xor 0 0) u ≡ bit_xor 0 (bit_xor 0 u)) refl refl z hz)
    (digit (λ (u : ℕ). bit_xor (bit_xor 0 1) u ≡ bit_xor 0 (bit_xor 1 u)) refl refl z hz) y hy)
    (digit (λ (u : ℕ). bit_xor (bit_xor 1 u) z ≡ bit_xor 1 (bit_xor u z))
    (digit (λ (u : ℕ). bit_xor (bit_xor 1 0) u ≡ bit_xor 1 (bit_xor 0 u)) refl refl z hz)
    (digit (λ (u : ℕ). bit_xor (bit_xor 1 1) u ≡ bit_xor 1 (bit_xor 1 u)) refl refl z hz) y hy)
    x hx

halves : (m n : ℕ) → m / 2 ≡ n / 2 → m % 2 ≡ n % 2 → m ≡ n
halves m n d e = omega (arith, div-add-mod' m 2, div-add-mod' n 2)

pub xor_assoc : (k a b c : ℕ) → a < 2 ^ k → bit_xor (bit_xor a b) c ≡ bit_xor a (bit_xor b c)
xor_assoc zero a b c h =
    let e : a ≡ 0 = omega arith in
    rw e (ap (λ (x : ℕ). bit_xor x c) (xor_zero_l b) ∙ sym (xor_zero_l (bit_xor b c)))
xor_assoc (suc k) a b c h =
    let p = pow-suc 2 k in
    halves _ _
    (xor_shr (bit_xor a b) c 1 ∙ ap (λ (x : ℕ). bit_xor x (c / 2)) (xor_shr a b 1) ∙ xor_assoc k (a / 2) (b / 2) (c / 2) (omega arith)
    ∙ ap (bit_xor (a / 2)) (sym (xor_shr b c 1)) ∙ sym (xor_shr a (bit_xor b c) 1))
    (xor_mod (bit_xor a b) c 1 ∙ ap (λ (x : ℕ). bit_xor x (c % 2)) (xor_mod a b 1)
    ∙ digits_assoc (a % 2) (b % 2) (c % 2) (mod-lt a (lit< tt)) (mod-lt b (lit< tt)) (mod-lt c (lit< tt))
    ∙ ap (bit_xor (a % 2)) (sym (xor_mod b c 1)) ∙ sym (xor_mod a (bit_xor b c) 1))

-- the middle two of four change places
pub xor_four : (k a b c d : ℕ) → a < 2 ^ k → b < 2 ^ k → c < 2 ^ k → bit_xor (bit_xor a b) (bit_xor c d) ≡ bit_xor (bit_xor a c) (bit_xor b d)
xor_four k a b c d ha hb hc =
    xor_assoc k a b (bit_xor c d) ha
    ∙ ap (bit_xor a) (sym (xor_assoc k b c d hb) ∙ ap (λ (x : ℕ). bit_xor x d) (xor_comm b c) ∙ xor_assoc k c b d hc)
    ∙ sym (xor_assoc k a c (bit_xor b d) ha)

-- a shift to the left goes through
pub xor_times : (k x y : ℕ) → bit_xor x y * 2 ^ k ≡ bit_xor (x * 2 ^ k) (y * 2 ^ k)
xor_times k x y =
    let a : x * 2 ^ k ≡ x * 2 ^ k + 0 = omega arith in
    let b : y * 2 ^ k ≡ y * 2 ^ k + 0 = omega arith in
    let z : bit_xor x y * 2 ^ k + bit_xor 0 0 ≡ bit_xor x y * 2 ^ k = omega arith in
    sym (ap (λ (u : ℕ). bit_xor u (y * 2 ^ k)) a ∙ ap (bit_xor (x * 2 ^ k + 0)) b ∙ xor_block k x y 0 0 (pow_pos k) (pow_pos k) ∙ z)
