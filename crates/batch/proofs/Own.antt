-- The bytes that a text has among the texts are a text to ask with. Assumes nothing.
use mathlib.Core.Path.{◌≡◌, refl, sym, ap, ◌∙◌}
use mathlib.Core.Logic.{by_cases}
use mathlib.Core.List.{List, [], ◌∷◌}
use Prim.Native.Nat.{ℕ, zero, suc, ◌+◌, ◌*◌, ◌/◌, ◌≤◌, ◌<◌}
use native.Mathlib.Nat.{not-suc-le-zero}
use native.Mathlib.Decide.{ℕ_discrete}
use native.Mathlib.Omega.{arith}
use borrow.Author.Tests.{eq-eqb, ne_eqb}
use lib.ListN.{length, take, drop}
use Rattle.le.specs.Le.{u16_at}
use Rattle.text.specs.Text.{chars}
use Rattle.lookup.specs.Lookup.{text_from}
use Rattle.lookup.proofs.Parts.{part_length, part_text}
use Rattle.path.specs.Names.{add_char, split, names_of, name_at}
use Rattle.path.proofs.Split.{length_add}

-- text i of the n characters at p: m characters from offset `at` on, with its 0 behind them; the first starts at p
record Stands (b : List ℕ) (p n i : ℕ) (xs : List (List ℕ)) : Type 0 where
  at : ℕ
  many : ℕ
  first : i ≡ 0 → at ≡ p
  within : at + 2 * many + 2 ≤ p + 2 * n
  is : chars b at many ≡ name_at xs i

-- with one character more in front, which is not 0
stands_more : (b : List ℕ) (p n i : ℕ) (xs : List (List ℕ)) → i < length xs → Stands b (p + 2) n i xs → Stands b p (suc n) i (add_char (u16_at b p) xs)
unfolding add_char name_at chars
stands_more b p n i [] h w = absurd (not-suc-le-zero h)
stands_more b p n zero (x ∷ xs) h w = record {
  at = p;
  many = suc w.many;
  first = λ e. refl;
  within = omega (arith, w.within, w.first refl);
  is = ap (λ (k : ℕ). u16_at b p ∷ chars b k w.many) (sym (w.first refl)) ∙ ap (λ (y : List ℕ). u16_at b p ∷ y) w.is;
}
stands_more b p n (suc i) (x ∷ xs) h w = record {
  at = w.at;
  many = w.many;
  first = λ e. absurd (omega arith);
  within = omega (arith, w.within);
  is = w.is;
}

-- with a 0 in front, which ends an empty text
stands_empty : (b : List ℕ) (p n i : ℕ) (xs : List (List ℕ)) → ((k : ℕ) → k < length xs → Stands b (p + 2) n k xs) → i < suc (length xs) → Stands b p (suc n) i ([] ∷ xs)
unfolding name_at chars
stands_empty b p n zero xs f h = record { at = p; many = 0; first = λ e. refl; within = omega arith; is = refl }
stands_empty b p n (suc i) xs f h =
    let w = f i (omega arith) in
    record { at = w.at; many = w.many; first = λ e. absurd (omega arith); within = omega (arith, w.within); is = w.is }

stands : (b : List ℕ) (n p i : ℕ) → i < length (split (chars b p n)) → Stands b p n i (split (chars b p n))
unfolding split chars
stands b zero p i h = absurd (not-suc-le-zero h)
stands b (suc n) p i h =
    by_cases (ℕ_discrete (u16_at b p) 0)
    (λ z. let e = eq-eqb (u16_at b p) 0 z in rw e (stands_empty b p n i _ (stands b n (p + 2)) (rw e at h)))
    (λ f.
    let e = ne_eqb (u16_at b p) 0 f in
    let l : i < length (split (chars b (p + 2) n)) = omega (arith, rw e at h, length_add (u16_at b p) (split (chars b (p + 2) n))) in
    rw e (stands_more b p n i _ l (stands b n (p + 2) i l)))

-- each text of some texts is that of its own bytes among them, which are even in number
pub own_bytes : (texts : List ℕ) (i : ℕ) → i < length (names_of texts)
    → (at n : ℕ) × (at + 2 * n + 2 ≤ length texts) × (length (take (2 * n) (drop at texts)) ≡ 2 * n) × (text_from (take (2 * n) (drop at texts)) ≡ name_at (names_of texts) i)
unfolding names_of text_from
own_bytes texts i h =
    let w = stands texts (length texts / 2) 0 i h in
    let l : w.at + 2 * w.many + 2 ≤ length texts = omega (arith, w.within) in
    (w.at, w.many, l, part_length texts w.at w.many (omega arith), part_text texts w.at w.many (omega arith) ∙ w.is)
