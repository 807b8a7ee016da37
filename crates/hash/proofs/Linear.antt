-- T is linear: the entry of an exclusive or is the exclusive or of the entries. So four characters go in one step. Assumes nothing.
use Prim.Native.Nat.{ℕ, zero, suc, ◌*◌, ◌/◌, ◌%◌, ◌^◌, ◌≤◌, ◌<◌}
use native.Mathlib.Nat.{mod-lt, mod-eq_of_lt, div-add-mod'}
use native.Mathlib.Omega.{arith}
use mathlib.Core.Path.{◌≡◌, refl, ap, sym, ◌∙◌}
use mathlib.Core.Logic.{⊎_elim}
use mathlib.Core.Bool.{cond}
use borrow.Author.Tests.{lt-ltb, le-ltb}
use lib.Bits.{bit_xor, xor_mod, xor_shr, xor_lt, xor_comm, xor_zero_l, xor_zero_r, xor_shifted}
use lib.ListN.{get_or}
use lib.Pow.{pow_pos}
use lib.Dec.{lit<, ltb}
use Rattle.laws.proofs.Order.{le_or_lt}
use Rattle.laws.proofs.Xor.{xor_assoc, xor_four, xor_times}
use Rattle.hash.specs.Table.{T, entry_of, double, doubled, rule_of}
use Rattle.hash.specs.inner.Tables.{zero_on, zeros_on}
use Rattle.hash.specs.Hash.{hash_byte, hash_char}
use Rattle.hash.proofs.Rule.{rule}

-- what doubling adds where the top bit was set
over : ℕ → ℕ
over x = cond (ltb x 0x8000_0000) 0 0x04c1_1db7

double_form : (x : ℕ) → x < 2 ^ 32 → double x ≡ bit_xor (x * 2 % 2 ^ 32) (over x)
unfolding double over
double_form x h =
    ⊎_elim
    (λ ge. rw (le-ltb x 0x8000_0000 ge))
    (λ lt. rw (lt-ltb x 0x8000_0000 lt) (sym (xor_zero_r (x * 2 % 2 ^ 32) ∙ mod-eq_of_lt {n = x * 2} {m = 2 ^ 32} (omega arith))))
    (le_or_lt 0x8000_0000 x)

over_low : (x : ℕ) → x < 0x8000_0000 → over x ≡ 0
unfolding over
over_low x h = rw (lt-ltb x 0x8000_0000 h)

over_high : (x : ℕ) → 0x8000_0000 ≤ x → over x ≡ 0x04c1_1db7
unfolding over
over_high x h = rw (le-ltb x 0x8000_0000 h)

over_lt : (x : ℕ) → over x < 2 ^ 32
over_lt x = ⊎_elim (λ ge. omega (arith, over_high x ge)) (λ lt. omega (arith, over_low x lt)) (le_or_lt 0x8000_0000 x)

top : (x y p q r : ℕ) → x / 2 ^ 31 ≡ p → y / 2 ^ 31 ≡ q → bit_xor p q ≡ r → bit_xor x y / 2 ^ 31 ≡ r
top x y p q r e d z = xor_shr x y 31 ∙ ap (λ (u : ℕ). bit_xor u (y / 2 ^ 31)) e ∙ ap (bit_xor p) d ∙ z

over_linear : (x y : ℕ) → x < 2 ^ 32 → y < 2 ^ 32 → over (bit_xor x y) ≡ bit_xor (over x) (over y)
over_linear x y hx hy =
    ⊎_elim
    (λ gx. ⊎_elim
    (λ gy.
    let t = top x y 1 1 0 (omega arith) (omega arith) refl in
    over_low (bit_xor x y) (omega arith) ∙ sym (ap (bit_xor (over x)) (over_high y gy) ∙ ap (λ (u : ℕ). bit_xor u 0x04c1_1db7) (over_high x gx)))
    (λ ly.
    let t = top x y 1 0 1 (omega arith) (omega arith) refl in
    over_high (bit_xor x y) (omega arith) ∙ sym (ap (bit_xor (over x)) (over_low y ly) ∙ ap (λ (u : ℕ). bit_xor u 0) (over_high x gx)))
    (le_or_lt 0x8000_0000 y))
    (λ lx. ⊎_elim
    (λ gy.
    let t = top x y 0 1 1 (omega arith) (omega arith) refl in
    over_high (bit_xor x y) (omega arith) ∙ sym (ap (bit_xor (over x)) (over_high y gy) ∙ ap (λ (u : ℕ). bit_xor u 0x04c1_1db7) (over_low x lx)))
    (λ ly.
    let t = top x y 0 0 0 (omega arith) (omega arith) refl in
    over_low (bit_xor x y) (omega arith) ∙ sym (ap (bit_xor (over x)) (over_low y ly) ∙ ap (λ (u : ℕ). bit_xor u 0) (over_low x lx)))
    (le_or_lt 0x8000_0000 y))
    (le_or_lt 0x8000_0000 x)

double_lt : (x : ℕ) → x < 2 ^ 32 → double x < 2 ^ 32
double_lt x h = rw (double_form x h) (xor_lt 32 (x * 2 % 2 ^ 32) (over x) (mod-lt (x * 2) (lit< tt)) (over_lt x))

double_linear : (x y : ℕ) → x < 2 ^ 32 → y < 2 ^ 32 → double (bit_xor x y) ≡ bit_xor (double x) (double y)
double_linear x y hx hy =
    double_form (bit_xor x y) (xor_lt 32 x y hx hy)
    ∙ ap (λ (u : ℕ). bit_xor u (over (bit_xor x y))) (ap (λ (u : ℕ). u % 2 ^ 32) (xor_times 1 x y) ∙ xor_mod (x * 2) (y * 2) 32)
    ∙ ap (bit_xor (bit_xor (x * 2 % 2 ^ 32) (y * 2 % 2 ^ 32))) (over_linear x y hx hy)
    ∙ xor_four 32 (x * 2 % 2 ^ 32) (y * 2 % 2 ^ 32) (over x) (over y) (mod-lt (x * 2) (lit< tt)) (mod-lt (y * 2) (lit< tt)) (over_lt x)
    ∙ ap (λ (u : ℕ). bit_xor u (bit_xor (y * 2 % 2 ^ 32) (over y))) (sym (double_form x hx))
    ∙ ap (bit_xor (double x)) (sym (double_form y hy))

doubled_linear : (n x y : ℕ) → x < 2 ^ 32 → y < 2 ^ 32 → doubled n (bit_xor x y) ≡ bit_xor (doubled n x) (doubled n y)
unfolding doubled
doubled_linear zero x y hx hy = refl
doubled_linear (suc n) x y hx hy = ap (doubled n) (double_linear x y hx hy) ∙ doubled_linear n (double x) (double y) (double_lt x hx) (double_lt y hy)

doubled_lt : (n x : ℕ) → x < 2 ^ 32 → doubled n x < 2 ^ 32
unfolding doubled
doubled_lt zero x h = h
doubled_lt (suc n) x h = doubled_lt n (double x) (double_lt x h)

rule_linear : (i j : ℕ) → i < 256 → j < 256 → rule_of (bit_xor i j) ≡ bit_xor (rule_of i) (rule_of j)
unfolding rule_of
rule_linear i j hi hj = ap (doubled 8) (xor_times 24 i j) ∙ doubled_linear 8 (i * 2 ^ 24) (j * 2 ^ 24) (omega arith) (omega arith)

rule_lt : (i : ℕ) → i < 256 → rule_of i < 2 ^ 32
unfolding rule_of
rule_lt i h = doubled_lt 8 (i * 2 ^ 24) (omega arith)

-- T is linear
pub entry_linear : (i j : ℕ) → i < 256 → j < 256 → entry_of (bit_xor i j) ≡ bit_xor (entry_of i) (entry_of j)
entry_linear i j hi hj = cc (rule_linear i j hi hj, rule i hi, rule j hj, rule (bit_xor i j) (xor_lt 8 i j hi hj))

pub entry_lt : (i : ℕ) → i < 256 → entry_of i < 2 ^ 32
entry_lt i h = rw (rule i h) (rule_lt i h)

-- ---- zero bytes

zero_lt : (x : ℕ) → x < 2 ^ 32 → zero_on x < 2 ^ 32
unfolding zero_on
zero_lt x h = xor_lt 32 (entry_of (x % 256)) (x / 256) (entry_lt _ (mod-lt x (lit< tt))) (omega arith)

pub zeros_lt : (k x : ℕ) → x < 2 ^ 32 → zeros_on k x < 2 ^ 32
unfolding zeros_on
zeros_lt zero x h = h
zeros_lt (suc k) x h = zero_lt (zeros_on k x) (zeros_lt k x h)

zero_linear : (x y : ℕ) → x < 2 ^ 32 → zero_on (bit_xor x y) ≡ bit_xor (zero_on x) (zero_on y)
unfolding zero_on
zero_linear x y h =
    let i : x % 256 < 256 = mod-lt x (lit< tt) in
    let j : y % 256 < 256 = mod-lt y (lit< tt) in
    ap (λ (u : ℕ). bit_xor (entry_of u) (bit_xor x y / 256)) (xor_mod x y 8)
    ∙ ap (λ (u : ℕ). bit_xor u (bit_xor x y / 256)) (entry_linear (x % 256) (y % 256) i j)
    ∙ ap (bit_xor (bit_xor (entry_of (x % 256)) (entry_of (y % 256)))) (xor_shr x y 8)
    ∙ xor_four 32 (entry_of (x % 256)) (entry_of (y % 256)) (x / 256) (y / 256) (entry_lt _ i) (entry_lt _ j) (omega arith)

-- 0 stays 0
pub zeros_none : (k : ℕ) → zeros_on k 0 ≡ 0
unfolding zeros_on zero_on entry_of T
zeros_none zero = refl
zeros_none (suc k) = ap zero_on (zeros_none k)

zeros_linear : (k x y : ℕ) → x < 2 ^ 32 → zeros_on k (bit_xor x y) ≡ bit_xor (zeros_on k x) (zeros_on k y)
unfolding zeros_on
zeros_linear zero x y h = refl
zeros_linear (suc k) x y h = ap zero_on (zeros_linear k x y h) ∙ zero_linear (zeros_on k x) (zeros_on k y) (zeros_lt k x h)

-- one zero byte more takes the low byte through T, and the rest down
pub zeros_more : (k x : ℕ) → zeros_on (suc k) x ≡ bit_xor (zeros_on k (entry_of (x % 256))) (zeros_on k (x / 256))
unfolding zeros_on zero_on
zeros_more zero x = refl
zeros_more (suc k) x =
    ap zero_on (zeros_more k x)
    ∙ zero_linear (zeros_on k (entry_of (x % 256))) (zeros_on k (x / 256)) (zeros_lt k (entry_of (x % 256)) (entry_lt _ (mod-lt x (lit< tt))))

-- a byte shifted up comes down unchanged
shifted : (y : ℕ) → zero_on (y * 256) ≡ y
unfolding zero_on entry_of T
shifted y =
    let a : y * 256 % 256 ≡ 0 = omega arith in
    let b : y * 256 / 256 ≡ y = omega arith in
    ap (λ (u : ℕ). bit_xor (get_or T u 0) (y * 256 / 256)) a ∙ ap (bit_xor 0) b ∙ xor_zero_l y

-- ---- to take a number in by its halves, and zero bytes after each, is to take it in whole

module _ (k j h w : ℕ) (s : (y : ℕ) → zeros_on k (y * 2 ^ j) ≡ y) (l : h < 2 ^ 32) (m : w % 2 ^ j < 2 ^ 32) where
  by_halves : zeros_on k (bit_xor (zeros_on k (bit_xor h (w % 2 ^ j))) (w / 2 ^ j)) ≡ zeros_on k (zeros_on k (bit_xor h w))
  by_halves =
      let a : bit_xor (w % 2 ^ j) (w / 2 ^ j * 2 ^ j) ≡ w =
      xor_comm (w % 2 ^ j) (w / 2 ^ j * 2 ^ j) ∙ xor_shifted (w / 2 ^ j) j (w % 2 ^ j) (mod-lt w (pow_pos j)) ∙ div-add-mod' w (2 ^ j) in
      ap (zeros_on k)
      (ap (bit_xor (zeros_on k (bit_xor h (w % 2 ^ j)))) (sym (s (w / 2 ^ j)))
      ∙ sym (zeros_linear k (bit_xor h (w % 2 ^ j)) (w / 2 ^ j * 2 ^ j) (xor_lt 32 h (w % 2 ^ j) l m))
      ∙ ap (zeros_on k) (xor_assoc 32 h (w % 2 ^ j) (w / 2 ^ j * 2 ^ j) l ∙ ap (bit_xor h) a))

byte_zero : (h b : ℕ) → b < 256 → hash_byte h b ≡ zero_on (bit_xor h b)
unfolding hash_byte zero_on
byte_zero h b l =
    let z : b / 256 ≡ 0 = omega arith in
    ap (bit_xor (entry_of (bit_xor h b % 256))) (sym (xor_shr h b 8 ∙ ap (bit_xor (h / 256)) z ∙ xor_zero_r (h / 256)))

pub char_zeros : (h c : ℕ) → h < 2 ^ 32 → c < 65536 → hash_char h c ≡ zeros_on 2 (bit_xor h c)
unfolding hash_char zeros_on
char_zeros h c l m =
    byte_zero (hash_byte h (c % 256)) (c / 256) (omega arith)
    ∙ ap (λ (x : ℕ). zero_on (bit_xor x (c / 256))) (byte_zero h (c % 256) (omega arith))
    ∙ by_halves 1 8 h c shifted l (omega arith)

pub pair_zeros : (h w : ℕ) → h < 2 ^ 32 → w < 2 ^ 32 → hash_char (hash_char h (w % 65536)) (w / 65536) ≡ zeros_on 4 (bit_xor h w)
unfolding zeros_on
pair_zeros h w l m =
    let e = char_zeros h (w % 65536) l (omega arith) in
    let u : hash_char h (w % 65536) < 2 ^ 32 = rw e (zeros_lt 2 _ (xor_lt 32 h (w % 65536) l (omega arith))) in
    char_zeros (hash_char h (w % 65536)) (w / 65536) u (omega arith)
    ∙ ap (λ (x : ℕ). zeros_on 2 (bit_xor x (w / 65536))) e
    ∙ by_halves 2 16 h w (λ y. let d : y * 65536 ≡ y * 256 * 256 = omega arith in ap (λ (x : ℕ). zero_on (zero_on x)) d ∙ ap zero_on (shifted (y * 256)) ∙ shifted y) l (omega arith)

-- two words: the second is taken in beside the first, four zero bytes later
pub quad_zeros : (h v w : ℕ) → h < 2 ^ 32 → v < 2 ^ 32 → w < 2 ^ 32
    → hash_char (hash_char (hash_char (hash_char h (v % 65536)) (v / 65536)) (w % 65536)) (w / 65536) ≡ bit_xor (zeros_on 8 (bit_xor h v)) (zeros_on 4 w)
unfolding zeros_on
quad_zeros h v w l m o =
    let e = pair_zeros h v l m in
    let u : hash_char (hash_char h (v % 65536)) (v / 65536) < 2 ^ 32 = rw e (zeros_lt 4 _ (xor_lt 32 h v l m)) in
    pair_zeros _ w u o ∙ zeros_linear 4 _ w u ∙ ap (λ (x : ℕ). bit_xor (zeros_on 4 x) (zeros_on 4 w)) e
