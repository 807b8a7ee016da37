-- Texts that are handed over as bytes, whole or in parts: no 0 ends them. Assumes nothing.
use Prim.Native.Nat.{ℕ, zero, suc, ◌+◌, ◌-◌, ◌*◌, ◌/◌, ◌%◌, ◌^◌, ◌≤◌, ◌<◌}
use native.Mathlib.Omega.{arith}
use mathlib.Core.Path.{◌≡◌, refl, ap, sym, ◌∙◌}
use mathlib.Core.List.{List}
use lib.ListN.{length, get_or, drop, drop_of_length-le}
use Rattle.laws.proofs.Drops.{drop_next}
use Rattle.le.specs.Le.{u16_at}
use Rattle.hash.specs.Hash.{hash_byte, hash_char, hash_bytes, hash_on}
use Rattle.hash.specs.Fold.{folded, fold_text, value_hash_of}
use Rattle.hash.specs.inner.Folded.{FoldedPair}
use Rattle.text.specs.Text.{chars}
use Rattle.text.proofs.Walk.{chars_from, chars_start, chars_over, chars_next, chars_rest, hash_end, hash_next}
use Rattle.text.proofs.Passed.{fold_end, fold_next}
use Rattle.text.proofs.Words.{Two}

-- ---- bytes

pub bytes_over : (s : List ℕ) (i h : ℕ) → length s ≤ i → hash_bytes h (drop i s) ≡ h
unfolding hash_bytes
bytes_over s i h l = ap (hash_bytes h) (drop_of_length-le s l)

pub bytes_next : (s : List ℕ) (i h c g : ℕ) → i < length s → c ≡ get_or s i 0 → g ≡ hash_byte h c → hash_bytes h (drop i s) ≡ hash_bytes g (drop (i + 1) s)
unfolding hash_bytes
bytes_next s i h c g l e q =
    ap (hash_bytes h) (drop_next s i l) ∙ ap (λ (x : ℕ). hash_bytes x (drop (i + 1) s)) (ap (hash_byte h) (sym e) ∙ sym q)

-- a character is its low byte and then its high byte
pub char_bytes : (h c a r : ℕ) → a ≡ hash_byte h (c % 256) → r ≡ hash_byte a (c / 256) → r ≡ hash_char h c
unfolding hash_char
char_bytes h c a r e q = q ∙ ap (λ (x : ℕ). hash_byte x (c / 256)) e

-- so to hash the bytes of n characters is to hash these
pub bytes-chars : (s : List ℕ) → ((k : ℕ) → get_or s k 0 < 256) → (n p h : ℕ) → p + 2 * n ≤ length s
    → hash_bytes h (drop p s) ≡ hash_bytes (hash_on h (chars s p n)) (drop (p + 2 * n) s)
unfolding chars hash_on u16_at
bytes-chars s f zero p h l = let e : p ≡ p + 2 * 0 = omega arith in ap (λ (j : ℕ). hash_bytes h (drop j s)) e
bytes-chars s f (suc n) p h l =
    let x = f p in
    let y = f (p + 1) in
    let low : get_or s p 0 ≡ u16_at s p % 256 = omega arith in
    let high : get_or s (p + 1) 0 ≡ u16_at s p / 256 = omega arith in
    let c = char_bytes h (u16_at s p) _ _ (ap (hash_byte h) low) (ap (hash_byte (hash_byte h (get_or s p 0))) high) in
    let e : p + 1 + 1 ≡ p + 2 = omega arith in
    let d : p + 2 + 2 * n ≡ p + 2 * suc n = omega arith in
    bytes_next s p h _ _ (omega arith) refl refl
    ∙ bytes_next s (p + 1) _ _ _ (omega arith) refl (sym c)
    ∙ ap (λ (j : ℕ). hash_bytes (hash_char h (u16_at s p)) (drop j s)) e
    ∙ bytes-chars s f n (p + 2) (hash_char h (u16_at s p)) (omega arith)
    ∙ ap (λ (j : ℕ). hash_bytes (hash_on (hash_char h (u16_at s p)) (chars s (p + 2) n)) (drop j s)) d

-- the characters first, and then what is left of the bytes
pub bytes_whole : (s : List ℕ) → ((k : ℕ) → get_or s k 0 < 256) → (n h g r : ℕ) → 2 * n ≤ length s → g ≡ hash_on h (chars s 0 n) → r ≡ hash_bytes g (drop (2 * n) s)
    → r ≡ hash_bytes h s
bytes_whole s f n h g r l e q =
    let z : 2 * n ≡ 0 + 2 * n = omega arith in
    q ∙ ap (λ (x : ℕ). hash_bytes x (drop (2 * n) s)) e
    ∙ ap (λ (j : ℕ). hash_bytes (hash_on h (chars s 0 n)) (drop j s)) z
    ∙ sym (bytes-chars s f n 0 h (omega arith))

-- ---- characters, folded

module _ (s : List ℕ) (p n : ℕ) where
  -- the hash, on from h, of the folded characters after i
  unfoldable pub folded_from : ℕ → ℕ → ℕ
  folded_from i h = hash_on h (fold_text (chars_from s p n i))

  pub folded_start : (h : ℕ) → hash_on h (fold_text (chars s p n)) ≡ folded_from 0 h
  unfolding folded_from
  folded_start h = ap (λ (t : List ℕ). hash_on h (fold_text t)) (sym (chars_start s p n))

  pub folded_next : (i j h c d g : ℕ) → i < n → j ≡ i + 1 → c ≡ u16_at s (p + 2 * i) → d ≡ folded c → g ≡ hash_char h d → folded_from i h ≡ folded_from j g
  unfolding folded_from
  folded_next i j h c d g l m e f q =
      hash_next _ _ _ _ _ (fold_next _ _ _ _ (chars_next s p n i c l e) f) q ∙ ap (λ (k : ℕ). hash_on g (fold_text (chars_from s p n k))) (sym m)

  pub folded_over : (i h : ℕ) → n ≤ i → folded_from i h ≡ h
  unfolding folded_from
  folded_over i h l = hash_end _ _ (fold_end _ (chars_over s p n i l))

  pub folded-rest : (i h : ℕ) → hash_on h (fold_text (chars s (p + 2 * i) (n - i))) ≡ folded_from i h
  unfolding folded_from
  folded-rest i h = ap (λ (t : List ℕ). hash_on h (fold_text t)) (chars_rest s p n i)

  pub folded_two : (i j h c w x g : ℕ) → Two s p n i c w → FoldedPair w x → j ≡ i + 2 → g ≡ hash_char (hash_char h (x % 65536)) (x / 65536)
      → folded_from i h ≡ folded_from j g
  folded_two i j h c w x g q f m e =
      folded_next i (i + 1) h _ _ _ (omega (arith, q.left)) refl q.low f.low refl
      ∙ folded_next (i + 1) j _ _ _ g q.left (omega arith) q.high f.high e

-- the 14 bits that are kept of such a hash
pub value-kept : (h g r : ℕ) → g ≡ h → r ≡ value_hash_of g → (r ≡ value_hash_of h) × (r < 2 ^ 14)
unfolding value_hash_of
value-kept h g r e q = (q ∙ ap value_hash_of e, omega arith)
