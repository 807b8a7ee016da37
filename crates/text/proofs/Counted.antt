-- The loop that counts characters that are 0. Assumes nothing.
use Prim.Native.Nat.{ℕ, ◌+◌, ◌*◌}
use native.Mathlib.Numerals.{add-one}
use native.Mathlib.Omega.{arith}
use mathlib.Core.Path.{◌≡◌, refl, ap, ◌∙◌}
use mathlib.Core.Bool.{Bool, cond}
use mathlib.Core.List.{List}
use borrow.Author.Tests.{eq-eqb, ne_eqb}
use Rattle.le.specs.Le.{u16_at}
use Rattle.text.specs.inner.Zeros.{zeros_in}

module _ (b : List ℕ) (p : ℕ) where
  pub zeros_none : zeros_in b p 0 ≡ 0
  unfolding zeros_in
  zeros_none = refl

  -- with one character more
  pub zeros_zero : (n : ℕ) → u16_at b (p + 2 * n) ≡ 0 → zeros_in b p (n + 1) ≡ zeros_in b p n + 1
  unfolding zeros_in
  zeros_zero n z =
      let e : 1 + zeros_in b p n ≡ zeros_in b p n + 1 = omega arith in
      ap (zeros_in b p) (add-one n) ∙ ap (λ (t : Bool). cond t 1 0 + zeros_in b p n) (eq-eqb _ 0 z) ∙ e

  pub zeros_other : (n : ℕ) → (u16_at b (p + 2 * n) ≡ 0 → ⊥) → zeros_in b p (n + 1) ≡ zeros_in b p n
  unfolding zeros_in
  zeros_other n z =
      let e : 0 + zeros_in b p n ≡ zeros_in b p n = omega arith in
      ap (zeros_in b p) (add-one n) ∙ ap (λ (t : Bool). cond t 1 0 + zeros_in b p n) (ne_eqb _ 0 z) ∙ e
