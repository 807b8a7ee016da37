-- The type word of an attribute, as the code splits it; type, extended code and truth word (18). Assumes nothing.
use Prim.Native.Nat.{ℕ, zero, suc, ◌-◌, ◌*◌, ◌<◌, ◌^◌}
use native.Mathlib.Decide.{ℕ_discrete}
use native.Mathlib.Nat.{mul-zero, zero-mul}
use native.Mathlib.Omega.{arith}
use mathlib.Core.Path.{◌≡◌, refl, ap, sym, ◌∙◌}
use mathlib.Core.Bool.{false}
use mathlib.Core.Logic.{inl, inr, ⊎_elim, by_cases}
use mathlib.Core.List.{List}
use lib.Dec.{leb}
use Rattle.verdict.specs.inner.Tells.{Tells}
use Rattle.verdict.proofs.Laws.{tells_no, tells_leb}
use Rattle.words.specs.Words.{type_of, extended_of}
use Rattle.nodes.specs.Attribute.{type_word, value_word, Typed}

module _ (b : List ℕ) (q w : ℕ) (e : w ≡ type_word b q) where
  pub kind_is : (k : ℕ) → k ≡ type_of w → type_of (type_word b q) ≡ k
  kind_is k f = ap type_of (sym e) ∙ sym f

  pub extended_is : (x : ℕ) → x ≡ extended_of w → extended_of (type_word b q) ≡ x
  extended_is x f = ap extended_of (sym e) ∙ sym f

-- What the code counts of a code x at type k is 0 of a text's, and of the code 0.
module _ (x : ℕ) where
  code_none : (k : ℕ) → k < 4 → x * (3 - k) ≡ 0 → (k ≡ 3 → ⊥) → x ≡ 0
  code_none zero h e m = omega arith
  code_none (suc zero) h e m = omega arith
  code_none (suc (suc zero)) h e m = omega arith
  code_none (suc (suc (suc zero))) h e m = absurd (m refl)
  code_none (suc (suc (suc (suc k)))) h e m = omega arith

  module _ (k : ℕ) (n : x * (3 - k) ≡ 0 → ⊥) where
    code_text : k ≡ 3 → ⊥
    code_text d = n (ap (λ (m : ℕ). x * (3 - m)) d ∙ mul-zero x)

    code_some : x ≡ 0 → ⊥
    code_some d = n (ap (λ (m : ℕ). m * (3 - k)) d ∙ zero-mul (3 - k))

  pub code_fits : (k : ℕ) → k < 4 → (w : ℕ) → w < 65536 → x ≡ extended_of w → x * (3 - k) < 2 ^ 64
  unfolding extended_of
  code_fits zero h w l e = omega arith
  code_fits (suc zero) h w l e = omega arith
  code_fits (suc (suc zero)) h w l e = omega arith
  code_fits (suc (suc (suc zero))) h w l e = omega arith
  code_fits (suc (suc (suc (suc k)))) h w l e = omega arith

module _ (b : List ℕ) (q w k : ℕ) (e : w ≡ type_word b q) (f : k ≡ type_of w) (x : ℕ) (g : x ≡ extended_of w) where
  pub typed-plain : k < 4 → x * (3 - k) ≡ 0 → Tells (Typed b q) (leb 1 k)
  unfolding Typed
  typed-plain few z =
      let u = kind_is b q w e k f in
      let y = extended_is b q w e x g in
      let o = code_none x k few z in
      tells_leb 1 k
      (λ h.
      by_cases (ℕ_discrete k 3)
      (λ d. inr (inr (omega arith)))
      (λ d.
      let n = o d in
      by_cases (ℕ_discrete k 2)
      (λ t. inr (inl (omega arith, omega arith)))
      (λ t. inl (omega arith, inl (omega arith)))))
      (⊎_elim (λ r. omega (arith, r.0)) (⊎_elim (λ r. omega (arith, r.0)) (λ r. omega arith)))

  module _ (n : x * (3 - k) ≡ 0 → ⊥) where
    pub typed_coded : (k ≡ 1 → ⊥) → Tells (Typed b q) false
    unfolding Typed
    typed_coded d =
        let u = kind_is b q w e k f in
        let y = extended_is b q w e x g in
        let z = code_some x k n in
        let l = code_text x k n in
        tells_no (⊎_elim (λ r. omega (arith, r.0)) (⊎_elim (λ r. omega (arith, r.1)) (λ r. omega arith)))

    pub typed_other : (x ≡ 1 → ⊥) → Tells (Typed b q) false
    unfolding Typed
    typed_other d =
        let u = kind_is b q w e k f in
        let y = extended_is b q w e x g in
        let z = code_some x k n in
        let l = code_text x k n in
        tells_no
        (⊎_elim (λ r. ⊎_elim (λ s. omega arith) (λ s. omega (arith, s.0)) r.1) (⊎_elim (λ r. omega (arith, r.1)) (λ r. omega arith)))

  pub typed_truth : k ≡ 1 → x ≡ 1 → (v : ℕ) → v ≡ value_word b q → Tells (Typed b q) (leb v 1)
  unfolding Typed
  typed_truth d o v p =
      let u = kind_is b q w e k f in
      let y = extended_is b q w e x g in
      tells_leb v 1 (λ h. inl (omega arith, inr (omega arith, omega arith)))
      (⊎_elim (λ r. ⊎_elim (λ s. omega arith) (λ s. omega (arith, s.1)) r.1) (⊎_elim (λ r. omega (arith, r.1)) (λ r. omega arith)))
