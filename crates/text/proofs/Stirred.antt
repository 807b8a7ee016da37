-- What the fingerprint's loop holds. Assumes nothing.
use Prim.Native.Nat.{ℕ, ◌+◌, ◌*◌, ◌/◌, ◌%◌, ◌^◌, ◌≤◌, ◌<◌}
use native.Mathlib.Omega.{arith}
use mathlib.Core.Path.{◌≡◌, ap, sym, ◌∙◌}
use mathlib.Core.List.{List, ◌∷◌}
use lib.ListN.{get_or}
use Rattle.le.specs.Le.{u16_at, u32_at}
use Rattle.text.specs.Text.{chars}
use Rattle.text.specs.inner.Fingerprint.{stirred, fingerprint_on, fingerprint_of}
use Rattle.text.proofs.Walk.{chars_from, chars_start, chars_over, chars_next}
use Rattle.text.proofs.Words.{two}

pub record Stirring (b : List ℕ) (p n i g : ℕ) : Type 0 where
  pub inside : i ≤ n
  pub small : g < 2 ^ 32
  pub rest : fingerprint_on 0 (chars b p n) ≡ fingerprint_on g (chars_from b p n i)

module _ (b : List ℕ) (p n : ℕ) where
  pub stirring_start : Stirring b p n 0 0
  stirring_start = record { inside = omega arith; small = omega arith; rest = ap (fingerprint_on 0) (sym (chars_start b p n)) }

  module _ (i g : ℕ) (k : Stirring b p n i g) where
    pub stirring_next : (w h j : ℕ) → ((m : ℕ) → get_or b m 0 < 256) → i + 1 < n → w ≡ u32_at b (p + 2 * i) → (h ≡ stirred g w) × (h < 2 ^ 32) → j ≡ i + 2
        → Stirring b p n j h
    unfolding fingerprint_on
    stirring_next w h j f l e s q =
        let t = two b p n i w f l e in
        let d : i + 1 + 1 ≡ j = omega arith in
        let x : w % 65536 + 65536 * (w / 65536) ≡ w = omega arith in
        let c = chars_next b p n i (w % 65536) (omega arith) t.low
        ∙ ap (λ (xs : List ℕ). w % 65536 ∷ xs) (chars_next b p n (i + 1) (w / 65536) l t.high)
        ∙ ap (λ (m : ℕ). w % 65536 ∷ w / 65536 ∷ chars_from b p n m) d in
        record {
          inside = omega arith;
          small = s.1;
          rest = k.rest ∙ ap (fingerprint_on g) c ∙ ap (λ (y : ℕ). fingerprint_on (stirred g y) (chars_from b p n j)) x
              ∙ ap (λ (y : ℕ). fingerprint_on y (chars_from b p n j)) (sym s.0);
        }

    -- one character is left, or none
    pub stirring_one : (c r : ℕ) → i < n → (i + 1 < n → ⊥) → c ≡ u16_at b (p + 2 * i) → r ≡ stirred g c → r / 65536 ≡ fingerprint_of (chars b p n)
    unfolding fingerprint_on fingerprint_of
    stirring_one c r l d e s =
        ap (λ (y : ℕ). y / 65536) (s ∙ sym (k.rest ∙ ap (fingerprint_on g) (chars_next b p n i c l e ∙ ap (λ (xs : List ℕ). c ∷ xs) (chars_over b p n (i + 1) (omega arith)))))

    pub stirring_none : (i < n → ⊥) → g / 65536 ≡ fingerprint_of (chars b p n)
    unfolding fingerprint_on fingerprint_of
    stirring_none d = ap (λ (y : ℕ). y / 65536) (sym (k.rest ∙ ap (fingerprint_on g) (chars_over b p n i (omega arith))))
