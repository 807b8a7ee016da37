-- Two lists of checks whose first fault is the same, or where the first refuses with a number and a place for which P, or the second with
-- some for which Q. Assumes nothing.
use Prim.Native.Nat.{ℕ, zero, suc, ◌+◌, ◌≤◌, ◌<◌}
use native.Mathlib.Omega.{arith}
use mathlib.Core.Path.{◌≡◌, refl, sym, ◌∙◌}
use mathlib.Core.Logic.{◌⊎◌, inl, inr, ⊎_elim}
use mathlib.Core.List.{List, ◌++◌}
use Rattle.verdict.specs.Verdict.{Verdict, Accepted, Refused}
use Rattle.verdict.specs.Checks.{Check, first_fault, each}
use Rattle.verdict.proofs.Laws.{fault_append, fault_keep}

-- refused, with a number and a place for which P
abbrev pub RefusedBy : (ℕ → ℕ → Type 0) → Verdict → Type 0
RefusedBy P v = (n : ℕ) × (p : ℕ) × (v ≡ Refused n p) × P n p

-- with P and Q for no number the two are the same
abbrev pub SameOr : (ℕ → ℕ → Type 0) → (ℕ → ℕ → Type 0) → List Check → List Check → Type 0
SameOr P Q xs ys = (first_fault xs ≡ first_fault ys) ⊎ (RefusedBy P (first_fault xs) ⊎ RefusedBy Q (first_fault ys))

-- no number
abbrev pub Never : ℕ → ℕ → Type 0
Never n p = ⊥

-- a refusal stands with whatever comes behind it
refused_keep : {P : ℕ → ℕ → Type 0} (xs us : List Check) → RefusedBy P (first_fault xs) → RefusedBy P (first_fault (xs ++ us))
refused_keep xs us w = (w.0, w.1, fault_keep xs us w.2, w.3)

-- .. and behind what holds
refused-append : {P : ℕ → ℕ → Type 0} (xs us : List Check) → first_fault xs ≡ Accepted → RefusedBy P (first_fault us) → RefusedBy P (first_fault (xs ++ us))
refused-append xs us e w = (w.0, w.1, fault_append xs us e ∙ w.2, w.3)

module _ {P Q : ℕ → ℕ → Type 0} where
  pub same-all : (xs : List Check) → SameOr P Q xs xs
  same-all xs = inl refl

  pub same-append : (xs ys us vs : List Check) → SameOr P Q xs ys → SameOr P Q us vs → SameOr P Q (xs ++ us) (ys ++ vs)
  same-append xs ys us vs (inr (inl w)) t = inr (inl (refused_keep xs us w))
  same-append xs ys us vs (inr (inr w)) t = inr (inr (refused_keep ys vs w))
  same-append xs ys us vs (inl e) t = go (first_fault ys) refl
    where
      go : (v : Verdict) → first_fault ys ≡ v → SameOr P Q (xs ++ us) (ys ++ vs)
      go Accepted q =
          ⊎_elim
          (λ f. inl (fault_append xs us (e ∙ q) ∙ f ∙ sym (fault_append ys vs q)))
          (λ w. inr (⊎_elim (λ r. inl (refused-append xs us (e ∙ q) r)) (λ r. inr (refused-append ys vs q r)) w))
          t
      go (Refused n p) q = inl (fault_keep xs us (e ∙ q) ∙ sym (fault_keep ys vs q))

  pub same-each : (f g : ℕ → List Check) (n i : ℕ) → ((j : ℕ) → i ≤ j → j < i + n → SameOr P Q (f j) (g j)) → SameOr P Q (each f n i) (each g n i)
  unfolding each
  same-each f g zero i h = inl refl
  same-each f g (suc n) i h =
      same-append (f i) (g i) _ _ (h i (omega arith) (omega arith)) (same-each f g n (i + 1) (λ j l m. h j (omega arith) (omega arith)))

-- the one is the other
pub same_is : (xs ys : List Check) → SameOr Never Never xs ys → first_fault xs ≡ first_fault ys
same_is xs ys s = ⊎_elim (λ e. e) (λ w. ⊎_elim (λ r. absurd r.3) (λ r. absurd r.3) w) s
