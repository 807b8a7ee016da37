-- Two characters read as one word w, whose low half is c. Assumes nothing.
use Prim.Native.Nat.{ℕ, ◌+◌, ◌-◌, ◌*◌, ◌/◌, ◌%◌, ◌^◌, ◌≤◌, ◌<◌}
use native.Mathlib.Omega.{arith}
use mathlib.Core.Path.{◌≡◌, refl, ap, sym, ◌∙◌}
use mathlib.Core.List.{List, [], ◌∷◌}
use lib.Bits.{bit_and, and_mask}
use lib.ListN.{get_or}
use Rattle.std.specs.declared.ops.ControlFlow.TheVariants.{Break}
use Rattle.le.specs.Le.{u16_at, u32_at}
use Rattle.hash.specs.Hash.{hash_char, hash_on}
use Rattle.hash.specs.Fold.{folded, value_hash_of}
use Rattle.hash.specs.inner.Folded.{FoldedPair}
use Rattle.hash.proofs.Laws.{char_lt}
use Rattle.hash.proofs.Halves.{fold_one}
use Rattle.text.specs.declared.Extent.{Extent}
use Rattle.text.specs.Text.{chars}
use Rattle.text.specs.inner.Measure.{MeasuredOn, ValueRun}
use Rattle.text.proofs.Laws.{chars-none, chars_more}
use Rattle.text.proofs.Walk.{chars_from, text_from, chars_start, chars_rest, chars_next, text_shut, text_next, hash_end, hash_next}
use Rattle.text.proofs.Passed.{Passed, PassedFolded, passed_next, folded_next, measured, value-met}

pub record Two (b : List ℕ) (p n i c w : ℕ) : Type 0 where
  pub left : i + 1 < n
  pub half : c ≡ w % 65536
  pub low : w % 65536 ≡ u16_at b (p + 2 * i)
  pub high : w / 65536 ≡ u16_at b (p + 2 * (i + 1))

pub two : (b : List ℕ) (p n i w : ℕ) → ((k : ℕ) → get_or b k 0 < 256) → i + 1 < n → w ≡ u32_at b (p + 2 * i) → Two b p n i (bit_and w 65535) w
unfolding u16_at u32_at
two b p n i w f l e =
    let d : p + 2 * (i + 1) ≡ p + 2 * i + 2 = omega arith in
    let g : p + 2 * (i + 1) + 1 ≡ p + 2 * i + 3 = omega arith in
    let x = ap (λ (k : ℕ). get_or b k 0) d in
    let y = ap (λ (k : ℕ). get_or b k 0) g in
    let s = f (p + 2 * i) in
    let t = f (p + 2 * i + 1) in
    record { left = l; half = and_mask w 16; low = omega arith; high = omega arith }

-- where four characters are left, the first two and the next two
module _ (b : List ℕ) (p n i w : ℕ) (f : (k : ℕ) → get_or b k 0 < 256) (l : i + 3 < n) where
  pub first_two : w ≡ u32_at b (p + 2 * i) → Two b p n i (bit_and w 65535) w
  first_two e = two b p n i w f (omega arith) e

  pub next_two : w ≡ u32_at b (p + 2 * (i + 2)) → Two b p n (i + 2) (bit_and w 65535) w
  next_two e = two b p n (i + 2) w f (omega arith) e

module _ {b : List ℕ} {p n i c w : ℕ} (q : Two b p n i c w) where
  two_shut : c ≡ 0 → text_from b p n i ≡ []
  two_shut z = text_shut b p n i (w % 65536) (omega arith) q.low (sym q.half ∙ z)

  two-first : (c ≡ 0 → ⊥) → text_from b p n i ≡ w % 65536 ∷ text_from b p n (i + 1)
  two-first z = text_next b p n i (w % 65536) (omega arith) q.low (λ y. z (q.half ∙ y))

  two-last : w < 65536 → text_from b p n (i + 1) ≡ []
  two-last z = text_shut b p n (i + 1) (w / 65536) q.left q.high (omega arith)

  two-second : (j : ℕ) → j ≡ i + 2 → 65536 ≤ w → text_from b p n (i + 1) ≡ w / 65536 ∷ text_from b p n j
  two-second j e z =
      let d : i + 1 + 1 ≡ j = omega arith in
      text_next b p n (i + 1) (w / 65536) q.left q.high (λ y. omega arith) ∙ ap (λ (m : ℕ). w / 65536 ∷ text_from b p n m) d

  -- the text ends at the first of the two
  pub measured_none : {s h : ℕ} {r : Extent} → Passed b p n s i h → c ≡ 0 → (r.length ≡ i) × (r.hash ≡ h) → MeasuredOn b p n s r
  measured_none k z e = measured b p n _ i _ _ k (two_shut z) e

  pub value_none : {s h r : ℕ} → PassedFolded b p n s i h → c ≡ 0 → r ≡ value_hash_of h → ValueRun b p n s (Break r)
  value_none k z e = value-met b p n _ i _ _ k (two_shut z) (omega (arith, q.left)) e

  -- or at the second
  pub measured_one : {s h g : ℕ} {r : Extent} → Passed b p n s i h → (c ≡ 0 → ⊥) → w < 65536 → (g ≡ hash_char h w) × (g < 2 ^ 32)
      → (r.length ≡ i + 1) × (r.hash ≡ g) → MeasuredOn b p n s r
  measured_one k y z e f =
      let d : w ≡ w % 65536 = omega arith in
      measured b p n _ (i + 1) _ _
      (passed_next b p n _ i (i + 1) _ _ _ k refl (omega (arith, q.left)) (two-first y) (e.0 ∙ ap (hash_char _) d, e.1))
      (two-last z) f

  pub value-one : {s h x g r : ℕ} → PassedFolded b p n s i h → (c ≡ 0 → ⊥) → w < 65536 → FoldedPair w x → (g ≡ hash_char h x) × (g < 2 ^ 32)
      → r ≡ value_hash_of g → ValueRun b p n s (Break r)
  value-one k y z f e d =
      let m : w ≡ w % 65536 = omega arith in
      value-met b p n _ (i + 1) _ _
      (folded_next b p n _ i (i + 1) _ _ _ _ k refl (omega (arith, q.left)) (two-first y) ((fold_one w _ z f).0 ∙ ap folded m) e)
      (two-last z) q.left d

  -- or after both
  pub passed_pair : {s h g : ℕ} (j : ℕ) → Passed b p n s i h → (c ≡ 0 → ⊥) → 65536 ≤ w → j ≡ i + 2
      → (g ≡ hash_char (hash_char h (w % 65536)) (w / 65536)) × (g < 2 ^ 32) → Passed b p n s j g
  passed_pair j k y z d e =
      passed_next b p n _ (i + 1) j _ _ _
      (passed_next b p n _ i (i + 1) _ _ _ k refl (omega (arith, q.left)) (two-first y) (refl, char_lt _ _ k.small))
      (omega arith) q.left (two-second j d z) e

  pub folded_pair : {s h x g : ℕ} (j : ℕ) → PassedFolded b p n s i h → (c ≡ 0 → ⊥) → 65536 ≤ w → FoldedPair w x → j ≡ i + 2
      → (g ≡ hash_char (hash_char h (x % 65536)) (x / 65536)) × (g < 2 ^ 32) → PassedFolded b p n s j g
  folded_pair j k y z f d e =
      folded_next b p n _ (i + 1) j _ _ _ _
      (folded_next b p n _ i (i + 1) _ _ _ _ k refl (omega (arith, q.left)) (two-first y) f.low (refl, char_lt _ _ k.small))
      (omega arith) q.left (two-second j d z) f.high e

  -- the same of characters that no 0 ends
  pub chars_pair : (h g j : ℕ) → j ≡ i + 2 → g ≡ hash_char (hash_char h (w % 65536)) (w / 65536) → hash_on h (chars_from b p n i) ≡ hash_on g (chars_from b p n j)
  chars_pair h g j m e =
      let d : i + 1 + 1 ≡ j = omega arith in
      hash_next _ _ _ _ _ (chars_next b p n i (w % 65536) (omega (arith, q.left)) q.low) refl
      ∙ hash_next _ _ _ _ _ (chars_next b p n (i + 1) (w / 65536) q.left q.high) e
      ∙ ap (λ (k : ℕ). hash_on g (chars_from b p n k)) d

-- ---- characters hashed from the front: none, one, or two and the rest

module _ (b : List ℕ) (p n h : ℕ) where
  pub hash-none : n ≡ 0 → h ≡ hash_on h (chars b p n)
  hash-none z = sym (hash_end _ _ (chars-none b p n z))

  pub hash-one : (c g : ℕ) → n ≡ 1 → c ≡ u16_at b p → g ≡ hash_char h c → g ≡ hash_on h (chars b p n)
  hash-one c g z e f =
      sym (hash_next _ _ _ _ _ (chars_more b p n 0 z ∙ ap (λ (x : ℕ). x ∷ chars b (p + 2) 0) (sym e)) f ∙ hash_end _ _ (chars-none b (p + 2) 0 refl))

  pub hash-two : (m w g r : ℕ) → ((k : ℕ) → get_or b k 0 < 256) → n ≡ m + 2 → w ≡ u32_at b p → g ≡ hash_char (hash_char h (w % 65536)) (w / 65536)
      → r ≡ hash_on g (chars b (p + 4) m) → r ≡ hash_on h (chars b p n)
  hash-two m w g r f l e d q =
      let y : m ≡ n - 2 = omega arith in
      let z : p ≡ p + 2 * 0 = omega arith in
      q ∙ ap (λ (k : ℕ). hash_on g (chars b (p + 4) k)) y ∙ ap (hash_on g) (chars_rest b p n 2)
      ∙ sym (chars_pair (two b p n 0 w f (omega arith) (e ∙ ap (u32_at b) z)) h g 2 refl d)
      ∙ ap (hash_on h) (chars_start b p n)

-- fewer than four, but not none, one or two
pub three : (n : ℕ) → n < 4 → (n ≡ 0 → ⊥) → (n ≡ 1 → ⊥) → (n ≡ 2 → ⊥) → n ≡ 3
three n l a b c = omega arith
