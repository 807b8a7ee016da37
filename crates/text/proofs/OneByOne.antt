-- Characters that are the same one by one, and four of them read as one number. Assumes nothing.
use Prim.Native.Nat.{ℕ, zero, suc, ◌+◌, ◌*◌, ◌≤◌, ◌<◌}
use native.Mathlib.Nat.{eq-or-lt_of_le}
use native.Mathlib.Omega.{arith}
use mathlib.Core.Path.{◌≡◌, refl, ap, sym, subst, ◌∙◌}
use mathlib.Core.Logic.{⊎_elim}
use mathlib.Core.List.{List}
use lib.ListN.{get_or}
use borrow.Author.Count.{below_none, below_more}
use Rattle.laws.proofs.Order.{le_or_lt}
use Rattle.le.proofs.Numbers.{Bytes, pairs, halves, words}
use Rattle.le.specs.Le.{u16_at, u64_at}
use Rattle.text.specs.Text.{chars}
use Rattle.text.proofs.Laws.{chars-at}

-- the first n characters at p of a and at q of b
unfoldable pub Alike : List ℕ → ℕ → List ℕ → ℕ → ℕ → Type 0
Alike a p b q n = (i : ℕ) → i < n → u16_at a (p + 2 * i) ≡ u16_at b (q + 2 * i)

pub chars-same : (a b : List ℕ) (n p q : ℕ) → ((i : ℕ) → i < n → u16_at a (p + 2 * i) ≡ u16_at b (q + 2 * i)) → chars a p n ≡ chars b q n
unfolding chars
chars-same a b zero p q f = refl
chars-same a b (suc n) p q f =
    let e : p + 2 * 0 ≡ p = omega arith in
    let g : q + 2 * 0 ≡ q = omega arith in
    let r = chars-same a b n (p + 2) (q + 2)
    (λ i l.
    let x : p + 2 + 2 * i ≡ p + 2 * suc i = omega arith in
    let y : q + 2 + 2 * i ≡ q + 2 * suc i = omega arith in
    ap (u16_at a) x ∙ f (suc i) (omega arith) ∙ ap (u16_at b) (sym y)) in
    let h = ap (u16_at a) (sym e) ∙ f 0 (omega arith) ∙ ap (u16_at b) g in
    cc

module _ (a : List ℕ) (p : ℕ) (b : List ℕ) (q n : ℕ) where
  pub alike-chars : Alike a p b q n → chars a p n ≡ chars b q n
  unfolding Alike
  alike-chars f = chars-same a b n p q f

  -- where one differs they do
  pub chars-alike : chars a p n ≡ chars b q n → (i : ℕ) → i < n → u16_at a (p + 2 * i) ≡ u16_at b (q + 2 * i)
  chars-alike e i l = sym (chars-at a p n i l) ∙ ap (λ (x : List ℕ). get_or x i 0) e ∙ chars-at b q n i l

  pub alike-upto : (i : ℕ) → n ≤ i → Alike a p b q i → Alike a p b q n
  unfolding Alike
  alike-upto i h f j l = f j (omega arith)

  pub alike-none : Alike a p b q 0
  unfolding Alike
  alike-none = below_none _

  pub alike_more : (i : ℕ) → Alike a p b q i → u16_at a (p + 2 * i) ≡ u16_at b (q + 2 * i) → Alike a p b q (i + 1)
  unfolding Alike
  alike_more i f e = below_more _ i f e

-- ---- four characters, read as one number

-- one of four numbers in a row
one_of_four : (P : ℕ → Type 0) (i j : ℕ) → P i → P (i + 1) → P (i + 2) → P (i + 3) → i ≤ j → j < i + 4 → P j
one_of_four P i j a b c d l m = ⊎_elim (λ e. subst P e a) (λ h. next 1 b h c d) (eq-or-lt_of_le l)
  where
    last : (k : ℕ) → P k → k ≤ j → j < k + 1 → P j
    last k z h g = let e : k ≡ j = omega arith in subst P e z

    next : (n : ℕ) → P (i + 1) → i < j → P (i + 2) → P (i + 3) → P j
    next n x h y z =
        ⊎_elim
        (λ e. subst P e x)
        (λ g. ⊎_elim (λ e. subst P e y) (λ f. last (i + 3) z (omega arith) (omega arith)) (eq-or-lt_of_le (let r : i + 2 ≤ j = omega arith in r)))
        (eq-or-lt_of_le (let r : i + 1 ≤ j = omega arith in r))

module _ (a : List ℕ) (p : ℕ) (b : List ℕ) (q i : ℕ) where
  -- characters that are the same give the same number
  pub four_number : ((j : ℕ) → i ≤ j → j < i + 4 → u16_at a (p + 2 * j) ≡ u16_at b (q + 2 * j)) → u64_at a (p + 2 * i) ≡ u64_at b (q + 2 * i)
  unfolding u64_at
  four_number f =
      let x = p + 2 * i in
      let y = q + 2 * i in
      let at : (d m n : ℕ) → d < 4 → m ≡ p + 2 * (i + d) → n ≡ q + 2 * (i + d) → u16_at a m ≡ u16_at b n =
      λ d m n l e g. ap (u16_at a) e ∙ f (i + d) (omega arith) (omega arith) ∙ ap (u16_at b) (sym g) in
      let u = pairs a b x y (at 0 x y (omega arith) (omega arith) (omega arith)) (at 1 (x + 2) (y + 2) (omega arith) (omega arith) (omega arith)) in
      let v = pairs a b (x + 4) (y + 4) (at 2 (x + 4) (y + 4) (omega arith) (omega arith) (omega arith)) (at 3 (x + 4 + 2) (y + 4 + 2) (omega arith) (omega arith) (omega arith)) in
      cc

  -- and the same number means the same characters
  pub four_chars : Bytes a → Bytes b → u64_at a (p + 2 * i) ≡ u64_at b (q + 2 * i) → (j : ℕ) → i ≤ j → j < i + 4 → u16_at a (p + 2 * j) ≡ u16_at b (q + 2 * j)
  four_chars f g e j l m =
      let x = p + 2 * i in
      let y = q + 2 * i in
      let w = words a b x y f g e in
      let u = halves a b x y f g w.0 in
      let v = halves a b (x + 4) (y + 4) f g w.1 in
      let at : (d m n : ℕ) → m ≡ p + 2 * (i + d) → n ≡ q + 2 * (i + d) → u16_at a m ≡ u16_at b n → u16_at a (p + 2 * (i + d)) ≡ u16_at b (q + 2 * (i + d)) =
      λ d m n h k r. ap (u16_at a) (sym h) ∙ r ∙ ap (u16_at b) k in
      one_of_four (λ (k : ℕ). u16_at a (p + 2 * k) ≡ u16_at b (q + 2 * k)) i j
      u.0
      (at 1 (x + 2) (y + 2) (omega arith) (omega arith) u.1)
      (at 2 (x + 4) (y + 4) (omega arith) (omega arith) v.0)
      (at 3 (x + 4 + 2) (y + 4 + 2) (omega arith) (omega arith) v.1)
      l m

  -- four more, as far as n
  pub alike_four : (n : ℕ) → n ≤ i + 4 → (k : ℕ) → i ≤ k → Alike a p b q k
      → ((j : ℕ) → i ≤ j → j < i + 4 → u16_at a (p + 2 * j) ≡ u16_at b (q + 2 * j)) → Alike a p b q n
  unfolding Alike
  alike_four n h k r f g j l = ⊎_elim (λ m. g j (omega arith) (omega arith)) (λ m. f j m) (le_or_lt k j)
