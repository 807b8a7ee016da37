-- The first broken rule of a list of checks, and what every check of a list says of its number and place. Assumes nothing.
use Prim.Native.Nat.{ℕ, zero, suc, ◌+◌, ◌≤◌, ◌<◌}
use native.Mathlib.Omega.{arith}
use mathlib.Core.Path.{◌≡◌, refl, ap, subst, ◌∙◌}
use mathlib.Core.Logic.{◌↔◌, ◌⊎◌, inl, inr}
use mathlib.Core.List.{List, [], ◌∷◌, ◌++◌}
use Rattle.verdict.specs.Verdict.{Refused}
use Rattle.verdict.specs.Checks.{Check, check, first_fault, Holds, FirstBroken, each}
use Rattle.verdict.proofs.Laws.{Clean, never, stop, fault_append, first_failing}

-- ---- a list is clean exactly when every rule of it holds

clean_holds : (cs : List Check) → Clean cs → Holds cs
unfolding first_fault Holds
clean_holds [] e = tt
clean_holds (check n p P (yes h) ∷ cs) e = (h, clean_holds cs e)
clean_holds (check n p P (no h) ∷ cs) e = absurd (never refl e)

holds_clean : (cs : List Check) → Holds cs → Clean cs
unfolding first_fault Holds
holds_clean [] h = refl
holds_clean (check n p P (yes g) ∷ cs) h = holds_clean cs h.1
holds_clean (check n p P (no g) ∷ cs) h = absurd (g h.0)

pub clean_iff : (cs : List Check) → Clean cs ↔ Holds cs
clean_iff cs = (clean_holds cs, holds_clean cs)

-- and it is refused exactly for the first that is broken
pub broken_iff : (cs : List Check) (n p : ℕ) → (first_fault cs ≡ Refused n p) ↔ FirstBroken cs n p
broken_iff cs n p = (
  λ e. let w = first_failing cs e in record {
    before = w.0;
    rule = w.1;
    decided = w.2;
    after = w.3;
    order = w.4;
    hold = clean_holds w.0 w.5;
    broken = w.6;
  },
  λ f. ap first_fault f.order ∙ fault_append f.before _ (holds_clean f.before f.hold) ∙ stop n p _ _ _ f.broken,
)

-- a refusal of two lists is one of the first, or, where that is clean, one of the second
pub append-refused : (xs ys : List Check) {n p : ℕ} → first_fault (xs ++ ys) ≡ Refused n p
    → (first_fault xs ≡ Refused n p) ⊎ (Clean xs × (first_fault ys ≡ Refused n p))
unfolding first_fault
append-refused [] ys e = inr (refl, e)
append-refused (check m q P (yes h) ∷ xs) ys e = append-refused xs ys e
append-refused (check m q P (no h) ∷ xs) ys e = inl e

-- ---- Q of the number, the place and the rule of every check of a list

unfoldable pub AllOf : (ℕ → ℕ → Type 0 → Type 0) → List Check → Type 0
AllOf Q [] = Unit
AllOf Q (check n p P d ∷ cs) = Q n p P × AllOf Q cs

module _ (Q : ℕ → ℕ → Type 0 → Type 0) where
  pub all_none : AllOf Q []
  unfolding AllOf
  all_none = tt

  pub all_more : (n p : ℕ) (P : Type 0) (d : Dec P) (cs : List Check) → Q n p P → AllOf Q cs → AllOf Q (check n p P d ∷ cs)
  unfolding AllOf
  all_more n p P d cs q a = (q, a)

  pub all_append : (xs ys : List Check) → AllOf Q xs → AllOf Q ys → AllOf Q (xs ++ ys)
  unfolding AllOf
  all_append [] ys a b = b
  all_append (check n p P d ∷ xs) ys a b = (a.0, all_append xs ys a.1 b)

  pub all-each : (f : ℕ → List Check) (n i : ℕ) → ((j : ℕ) → i ≤ j → j < i + n → AllOf Q (f j)) → AllOf Q (each f n i)
  unfolding each AllOf
  all-each f zero i g = tt
  all-each f (suc n) i g =
      all_append (f i) (each f n (i + 1)) (g i (omega arith) (omega arith)) (all-each f n (i + 1) (λ j l h. g j (omega arith) (omega arith)))

-- what a broken rule means for its number and place holds of the first fault
pub all-broken : (R : ℕ → ℕ → Type 0) (cs : List Check) {n p : ℕ} → AllOf (λ m q P. (P → ⊥) → R m q) cs → first_fault cs ≡ Refused n p → R n p
unfolding first_fault AllOf
all-broken R [] a e = absurd (never e refl)
all-broken R (check m q P (yes h) ∷ cs) a e = all-broken R cs a.1 e
all-broken R (check m q P (no h) ∷ cs) {n} {p} a e =
    let x : m ≡ n = cc in
    let y : q ≡ p = cc in
    subst (λ (k : ℕ). R k p) x (subst (R m) y (a.0 h))
