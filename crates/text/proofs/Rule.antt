-- Where a text ends: text_in computes the rule of specs/Text. Assumes nothing.
use Prim.Native.Nat.{ℕ, ◌<◌}
use native.Mathlib.Nat.{eq-or-lt_of_le}
use native.Mathlib.Omega.{arith}
use mathlib.Core.Path.{◌≡◌, ap, sym, ◌∙◌}
use mathlib.Core.Logic.{◌↔◌, inl, inr, ⊎_elim}
use mathlib.Core.List.{List}
use lib.ListN.{length}
use Rattle.laws.proofs.Order.{le_or_lt}
use Rattle.text.specs.Text.{chars, text_in, TextEnds}
use Rattle.text.proofs.Laws.{text-chars, text_length_le, text-live, text_end}

module _ (b : List ℕ) (p n : ℕ) where
  pub text-ends : TextEnds b p n (length (text_in b p n))
  text-ends = record {
    inside = text_length_le b p n;
    live = λ i h. text-live b p n i h;
    ends = ⊎_elim (λ e. inl e) (λ l. inr (text_end b p n l)) (eq-or-lt_of_le (text_length_le b p n));
  }

  -- two ends are one
  not-before : (k m : ℕ) → TextEnds b p n k → TextEnds b p n m → k < m → ⊥
  not-before k m e f l = ⊎_elim (λ q. omega (arith, f.inside)) (λ z. f.live k l z) e.ends

  pub ends-once : (k m : ℕ) → TextEnds b p n k → TextEnds b p n m → k ≡ m
  ends-once k m e f =
      ⊎_elim (λ l. ⊎_elim (λ q. q) (λ g. absurd (not-before k m e f g)) (eq-or-lt_of_le l)) (λ l. absurd (not-before m k f e l)) (le_or_lt k m)

  pub text-rule : (xs : List ℕ) → (xs ≡ text_in b p n) ↔ ((m : ℕ) × TextEnds b p n m × (xs ≡ chars b p m))
  text-rule xs = (
    λ e. (length (text_in b p n), text-ends, e ∙ text-chars b p n),
    λ w. w.2 ∙ ap (chars b p) (ends-once w.0 (length (text_in b p n)) w.1 text-ends) ∙ sym (text-chars b p n),
  )
