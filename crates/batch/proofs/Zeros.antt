-- How many texts there are: each 0 ends one. Assumes nothing.
use mathlib.Core.Path.{◌≡◌, refl, sym, ap, ◌∙◌}
use mathlib.Core.Bool.{cond}
use mathlib.Core.Logic.{by_cases}
use mathlib.Core.List.{List, ◌++◌}
use Prim.Native.Nat.{ℕ, zero, suc, ◌+◌, ◌*◌, ◌/◌, ◌%◌, ◌≤◌, ◌<◌}
use native.Mathlib.Decide.{ℕ_discrete}
use native.Mathlib.Omega.{arith}
use borrow.Author.Tests.{eq-eqb, ne_eqb}
use lib.Dec.{eqb}
use lib.ListN.{length, length-append, get_or-append}
use lib.Seq.{get_or-append-add}
use Rattle.le.specs.Le.{u16_at}
use Rattle.text.specs.Text.{chars}
use Rattle.text.specs.inner.Zeros.{zeros_in}
use Rattle.text.proofs.Counted.{zeros_none}
use Rattle.lookup.specs.Lookup.{text_from}
use Rattle.path.specs.Names.{split, names_of}
use Rattle.path.proofs.Split.{length_add}

-- ---- zeros among characters

-- by the first character
zeros_first : (b : List ℕ) (p n : ℕ) → zeros_in b p (suc n) ≡ cond (eqb (u16_at b p) 0) 1 0 + zeros_in b (p + 2) n
unfolding zeros_in
zeros_first b p zero = let e : p + 2 * 0 ≡ p = omega arith in rw e
zeros_first b p (suc n) =
    let e : p + 2 * suc n ≡ p + 2 + 2 * n = omega arith in
    rw e (omega (arith, zeros_first b p n))

zeros_le : (b : List ℕ) (p n : ℕ) → zeros_in b p n ≤ n
unfolding zeros_in
zeros_le b p zero = omega arith
zeros_le b p (suc n) =
    by_cases (ℕ_discrete (u16_at b (p + 2 * n)) 0)
    (λ z. rw (eq-eqb _ 0 z) (omega (arith, zeros_le b p n)))
    (λ f. rw (ne_eqb _ 0 f) (omega (arith, zeros_le b p n)))

-- of the first characters, and of those behind them
zeros_behind : (b : List ℕ) (p k n : ℕ) → zeros_in b p (k + n) ≡ zeros_in b p k + zeros_in b (p + 2 * k) n
unfolding zeros_in
zeros_behind b p k zero = let e : k + 0 ≡ k = omega arith in rw e (omega arith)
zeros_behind b p k (suc n) =
    let e : k + suc n ≡ suc (k + n) = omega arith in
    let f : p + 2 * (k + n) ≡ p + 2 * k + 2 * n = omega arith in
    rw (e, f) (omega (arith, zeros_behind b p k n))

-- the same characters in another list
zeros_same : (a b : List ℕ) (p q n : ℕ) → ((i : ℕ) → i < n → u16_at a (p + 2 * i) ≡ u16_at b (q + 2 * i)) → zeros_in a p n ≡ zeros_in b q n
unfolding zeros_in
zeros_same a b p q zero f = refl
zeros_same a b p q (suc n) f = rw (f n (omega arith), zeros_same a b p q n (λ i l. f i (omega arith)))

-- ---- each ends a text

split-zeros : (b : List ℕ) (n p : ℕ) → length (split (chars b p n)) ≡ zeros_in b p n
unfolding split chars
split-zeros b zero p = sym (zeros_none b p)
split-zeros b (suc n) p =
    by_cases (ℕ_discrete (u16_at b p) 0)
    (λ z. let e = eq-eqb (u16_at b p) 0 z in rw e (omega (arith, rw e at (zeros_first b p n), split-zeros b n (p + 2))))
    (λ f.
    let e = ne_eqb (u16_at b p) 0 f in
    rw e (omega (arith, rw e at (zeros_first b p n), split-zeros b n (p + 2), length_add (u16_at b p) (split (chars b (p + 2) n)))))

pub names-zeros : (texts : List ℕ) → length (names_of texts) ≡ zeros_in texts 0 (length texts / 2)
unfolding names_of text_from
names-zeros texts = split-zeros texts (length texts / 2) 0

-- ---- the loop over blocks

-- n zeros stand before the rest of the texts
pub record Counting (texts : List ℕ) (n : ℕ) (rest : List ℕ) : Type 0 where
  pub even : length rest % 2 ≡ 0
  pub left : n + zeros_in rest 0 (length rest / 2) ≡ zeros_in texts 0 (length texts / 2)

-- a block in front of others
module _ (x r : List ℕ) where
  in_block : (i : ℕ) → i < length x / 2 → u16_at (x ++ r) (0 + 2 * i) ≡ u16_at x (0 + 2 * i)
  unfolding u16_at
  in_block i l = rw (get_or-append x r 0 (0 + 2 * i) (omega arith), get_or-append x r 0 (0 + 2 * i + 1) (omega arith))

  behind_block : length x % 2 ≡ 0 → (i : ℕ) → u16_at (x ++ r) (0 + 2 * (length x / 2) + 2 * i) ≡ u16_at r (0 + 2 * i)
  unfolding u16_at
  behind_block h i =
      let e : 0 + 2 * (length x / 2) + 2 * i ≡ length x + (0 + 2 * i) = omega arith in
      let f : length x + (0 + 2 * i) + 1 ≡ length x + (0 + 2 * i + 1) = omega arith in
      rw (e, f, get_or-append-add x r (0 + 2 * i) 0, get_or-append-add x r (0 + 2 * i + 1) 0)

  zeros-block : length x % 2 ≡ 0 → zeros_in (x ++ r) 0 (length (x ++ r) / 2) ≡ zeros_in x 0 (length x / 2) + zeros_in r 0 (length r / 2)
  zeros-block h =
      let e : length (x ++ r) / 2 ≡ length x / 2 + length r / 2 = omega (arith, length-append x r) in
      ap (zeros_in (x ++ r) 0) e
      ∙ zeros_behind (x ++ r) 0 (length x / 2) (length r / 2)
      ∙ (let a = zeros_same (x ++ r) x 0 0 (length x / 2) in_block in
      let c = zeros_same (x ++ r) r (0 + 2 * (length x / 2)) 0 (length r / 2) (λ i l. behind_block h i) in
      cc)

module _ {texts s : List ℕ} {n : ℕ} (w : Counting texts n s) (x r : List ℕ) (e : s ≡ x ++ r) (even : length x % 2 ≡ 0) where
  pub counting_few : n + zeros_in x 0 (length x / 2) ≤ length texts
  counting_few = omega (arith, w.left, ap (λ (y : List ℕ). zeros_in y 0 (length y / 2)) e, zeros-block x r even, zeros_le texts 0 (length texts / 2))

  pub counting_more : Counting texts (n + zeros_in x 0 (length x / 2)) r
  counting_more = record {
    even = omega (arith, w.even, ap length e, length-append x r);
    left = omega (arith, w.left, ap (λ (y : List ℕ). zeros_in y 0 (length y / 2)) e, zeros-block x r even);
  }

pub counting_all : {texts : List ℕ} {n : ℕ} {s : List ℕ} → Counting texts n s → length s ≡ 0 → n ≡ length (names_of texts)
counting_all {texts} {n} {s} w h =
    let e : length s / 2 ≡ 0 = omega arith in
    omega (arith, w.left, ap (zeros_in s 0) e, zeros_none s 0, names-zeros texts)
