-- Two characters folded at once, each in its half of a word. Assumes nothing.
use Prim.Native.Nat.{ℕ, ◌+◌, ◌*◌, ◌/◌, ◌%◌, ◌^◌, ◌≤◌, ◌<◌}
use native.Mathlib.Nat.{div-add-mod', mod-eq_of_lt}
use native.Mathlib.Omega.{arith}
use mathlib.Core.Path.{◌≡◌, ap, sym, ◌∙◌}
use mathlib.Core.Bool.{Bool}
use lib.Bits.{bit_xor, bit_and, bit_or, xor_lt, xor_block, and_block, and_high, and_le_l, and_le_r, or_add_and, or_lt, or_mod, or_shr, or_shifted_r}
use lib.Dec.{eqb, eqb→eq}
use lib.ListN.{replicate}
use Rattle.laws.proofs.Computed.{at}
use Rattle.hash.specs.Fold.{loses, folded}
use Rattle.hash.specs.inner.Folded.{FoldedPair}
use Rattle.hash.proofs.Laws.{folded_le}

-- both halves are folded
halves : (w r : ℕ) → w < 2 ^ 32 → r ≡ folded (w / 65536) * 65536 + folded (w % 65536) → FoldedPair w r
halves w r l e =
    let a = folded_le (w / 65536) in
    let b = folded_le (w % 65536) in
    record { low = omega arith; high = omega arith; small = omega arith }

-- each by itself
pub joined : (w a b : ℕ) → w < 2 ^ 32 → (a ≡ folded (w % 65536)) × (a < 65536) → (b ≡ folded (w / 65536)) × (b < 65536)
    → FoldedPair w (bit_or a (b * 65536 % 2 ^ 64))
joined w a b l p q =
    let d : b * 65536 % 2 ^ 64 ≡ b * 2 ^ 16 = omega arith in
    let e : bit_or a (b * 65536 % 2 ^ 64) ≡ b * 65536 + a = ap (bit_or a) d ∙ or_shifted_r b 16 a p.1 in
    halves w _ l (omega arith)

-- a word of one character
pub fold_one : (c r : ℕ) → c < 65536 → FoldedPair c r → (r ≡ folded c) × (r < 65536)
unfolding folded loses
fold_one c r l f =
    let d : c % 65536 ≡ c = omega arith in
    let e : c / 65536 ≡ 0 = omega arith in
    let g : folded (c % 65536) ≡ folded c = ap folded d in
    let h : folded (c / 65536) ≡ 0 = ap folded e in
    let k = folded_le c in
    (omega (arith, f.low, f.high), omega (arith, f.low, f.high))

-- ---- below 0080

-- what marks a letter, and in both halves
mark : ℕ → ℕ
mark c = bit_and (bit_xor (c + 0x1f) (c + 0x05)) 0x80

abbrev marks : ℕ → ℕ
marks w = bit_and (bit_xor (w + 0x1f_001f) (w + 0x05_0005)) 0x80_0080

mark_high : (c : ℕ) → mark c ≡ bit_xor (c + 0x1f) (c + 0x05) / 128 % 2 * 128
unfolding mark
mark_high c = and_high (bit_xor (c + 0x1f) (c + 0x05)) 1 7

marks_halves : (w c d : ℕ) → w ≡ d * 2 ^ 16 + c → c < 0x80 → marks w ≡ mark d * 2 ^ 16 + mark c
unfolding mark
marks_halves w c d e l =
    let a : w + 0x1f_001f ≡ (d + 0x1f) * 2 ^ 16 + (c + 0x1f) = omega arith in
    let b : w + 0x05_0005 ≡ (d + 0x05) * 2 ^ 16 + (c + 0x05) = omega arith in
    ap (λ (u : ℕ). bit_and (bit_xor u (w + 0x05_0005)) 0x80_0080) a
    ∙ ap (λ (u : ℕ). bit_and (bit_xor ((d + 0x1f) * 2 ^ 16 + (c + 0x1f)) u) 0x80_0080) b
    ∙ ap (λ (u : ℕ). bit_and u 0x80_0080) (xor_block 16 (d + 0x1f) (d + 0x05) (c + 0x1f) (c + 0x05) (omega arith) (omega arith))
    ∙ and_block 16 (bit_xor (d + 0x1f) (d + 0x05)) 0x80 (bit_xor (c + 0x1f) (c + 0x05)) 0x80
    (xor_lt 16 (c + 0x1f) (c + 0x05) (omega arith) (omega arith)) (omega arith)

-- moved down by two bits it is what the character loses: one computed test
right : ℕ → ℕ → Bool
right c x = eqb (bit_xor c (mark c / 4)) (folded c)

mark_folds : (c : ℕ) → c < 0x80 → bit_xor c (mark c / 4) ≡ folded c
unfolding right mark folded loses
mark_folds c h = eqb→eq (bit_xor c (mark c / 4)) (folded c) (at right (replicate 128 0) tt c h)

low_half : (n : ℕ) → n < 65536 → bit_and n 0xff80 ≡ 0 → n < 0x80
low_half n l z =
    let e : n / 128 % 512 * 128 ≡ 0 = sym (and_high n 9 7) ∙ z in
    let d : n / 128 % 512 ≡ n / 128 = mod-eq_of_lt {n = n / 128} {m = 512} (omega arith) in
    omega arith

pub low_halves : (w : ℕ) → w < 2 ^ 32 → bit_and w 0xff80_ff80 ≡ 0 → (w % 65536 < 0x80) × (w / 65536 < 0x80)
low_halves w l z =
    let e : bit_and (w / 65536) 0xff80 * 2 ^ 16 + bit_and (w % 65536) 0xff80 ≡ 0 =
    sym (and_block 16 (w / 65536) 0xff80 (w % 65536) 0xff80 (omega arith) (omega arith))
    ∙ ap (λ (x : ℕ). bit_and x 0xff80_ff80) (div-add-mod' w 65536) ∙ z in
    (low_half (w % 65536) (omega arith) (omega arith), low_half (w / 65536) (omega arith) (omega arith))

-- what is low in the bits of two words is low in each
or_le : (a b : ℕ) → (a ≤ bit_or a b) × (b ≤ bit_or a b)
or_le a b = (omega (arith, or_add_and a b, and_le_r a b), omega (arith, or_add_and a b, and_le_l a b))

pub low_words : (v w : ℕ) → (v < 2 ^ 32) × (w < 2 ^ 32) → bit_and (bit_or v w) 0xff80_ff80 ≡ 0
    → ((v % 65536 < 0x80) × (v / 65536 < 0x80)) × ((w % 65536 < 0x80) × (w / 65536 < 0x80))
low_words v w l z =
    let h = low_halves (bit_or v w) (or_lt 32 v w l.0 l.1) z in
    let a = or_le (v % 65536) (w % 65536) in
    let b = or_le (v / 65536) (w / 65536) in
    let c = or_mod v w 16 in
    let d = or_shr v w 16 in
    ((omega arith, omega arith), (omega arith, omega arith))

pub low-folded : (w : ℕ) → (w % 65536 < 0x80) × (w / 65536 < 0x80) → FoldedPair w (bit_xor w (marks w / 4))
low-folded w h =
    let c = w % 65536 in
    let d = w / 65536 in
    let m = marks_halves w c d (omega arith) h.0 in
    let k : marks w / 4 ≡ mark d / 4 * 2 ^ 16 + mark c / 4 = omega (arith, mark_high c, mark_high d) in
    let r =
    ap (bit_xor w) k ∙ ap (λ (u : ℕ). bit_xor u (mark d / 4 * 2 ^ 16 + mark c / 4)) (sym (div-add-mod' w 65536))
    ∙ xor_block 16 d (mark d / 4) c (mark c / 4) (omega arith) (omega (arith, mark_high c)) in
    halves w _ (omega arith) (omega (arith, mark_folds c h.0, mark_folds d h.1))
