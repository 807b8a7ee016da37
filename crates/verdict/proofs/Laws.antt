-- Laws of specs/Checks.antt. Assumes nothing.
use Prim.Native.Nat.{ℕ, zero, suc, ◌+◌, ◌-◌, ◌≤◌, ◌<◌}
use native.Mathlib.Nat.{not-suc-le-zero, eq-or-lt_of_le}
use native.Mathlib.Numerals.{add-one}
use native.Mathlib.Omega.{arith}
use mathlib.Core.Path.{◌≡◌, refl, ap, subst, ◌∙◌}
use mathlib.Core.Logic.{◌⊎◌, inl, inr}
use mathlib.Core.List.{List, [], ◌∷◌, ◌++◌, append_assoc}
use Rattle.verdict.specs.Verdict.{Verdict, Accepted, Refused}
use mathlib.Core.Bool.{true, false, true≢false, false≢true}
use lib.Dec.{eqb, leb}
use borrow.Author.Tests.{eqb-true, eqb-false, leb-true, leb-false}
use Rattle.verdict.specs.Checks.{Check, check, first_fault, each}
use Rattle.verdict.specs.inner.Tells.{Tells, Sure}

-- none of the checks fails
abbrev pub Clean : List Check → Type 0
Clean cs = first_fault cs ≡ Accepted

pub never : {v : Verdict} {n p : ℕ} → v ≡ Refused n p → v ≡ Accepted → ⊥
never q r = let z : ◌≡◌ {A = ℕ} 0 1 = cc in omega arith

-- ---- what the code's proofs cite: a check that holds is passed, one that does not is the answer

pub pass : (n p : ℕ) (P : Type 0) (d : Dec P) (cs : List Check) → P → first_fault (check n p P d ∷ cs) ≡ first_fault cs
unfolding first_fault
pass n p P d cs h = go d
  where
    go : (d : Dec P) → first_fault (check n p P d ∷ cs) ≡ first_fault cs
    go (yes g) = refl
    go (no g) = absurd (g h)

pub stop : (n p : ℕ) (P : Type 0) (d : Dec P) (cs : List Check) → (P → ⊥) → first_fault (check n p P d ∷ cs) ≡ Refused n p
unfolding first_fault
stop n p P d cs h = go d
  where
    go : (d : Dec P) → first_fault (check n p P d ∷ cs) ≡ Refused n p
    go (yes g) = absurd (h g)
    go (no g) = refl

pub fault_none : first_fault [] ≡ Accepted
unfolding first_fault
fault_none = refl

-- ---- from an acceptance back to what was checked

pub clean_inv : (n p : ℕ) (P : Type 0) (d : Dec P) (cs : List Check) → Clean (check n p P d ∷ cs) → P × Clean cs
unfolding first_fault
clean_inv n p P d cs e = go d e
  where
    go : (d : Dec P) → Clean (check n p P d ∷ cs) → P × Clean cs
    go (yes g) e = (g, e)
    go (no g) e = absurd (never refl e)

-- ---- lists of checks one after the other

pub fault_append : (xs ys : List Check) → Clean xs → first_fault (xs ++ ys) ≡ first_fault ys
unfolding first_fault
fault_append [] ys e = refl
fault_append (check n p P (yes h) ∷ xs) ys e = fault_append xs ys e
fault_append (check n p P (no h) ∷ xs) ys e = absurd (never refl e)

pub fault_keep : (xs ys : List Check) {n p : ℕ} → first_fault xs ≡ Refused n p → first_fault (xs ++ ys) ≡ Refused n p
unfolding first_fault
fault_keep [] ys e = absurd (never e refl)
fault_keep (check n p P (yes h) ∷ xs) ys e = fault_keep xs ys e
fault_keep (check n p P (no h) ∷ xs) ys e = e

pub append_inv : (xs ys : List Check) → Clean (xs ++ ys) → Clean xs × Clean ys
unfolding first_fault
append_inv [] ys e = (refl, e)
append_inv (check n p P (yes h) ∷ xs) ys e = append_inv xs ys e
append_inv (check n p P (no h) ∷ xs) ys e = absurd (never refl e)

-- otherwise it is the first failing check in order: all before it hold, and it does not
pub first_failing : (cs : List Check) {n p : ℕ} → first_fault cs ≡ Refused n p
    → (xs : List Check) × (P : Type 0) × (d : Dec P) × (ys : List Check) × (cs ≡ xs ++ (check n p P d ∷ ys)) × Clean xs × (P → ⊥)
unfolding first_fault
first_failing [] e = absurd (never e refl)
first_failing (check m q P (yes h) ∷ cs) e =
    let r = first_failing cs e in
    (check m q P (yes h) ∷ r.0, r.1, r.2, r.3, ap (λ (l : List Check). check m q P (yes h) ∷ l) r.4, r.5, r.6)
first_failing (check m q P (no h) ∷ cs) {n} {p} e =
    let a : m ≡ n = cc in
    let b : q ≡ p = cc in
    ([], P, no h, cs, ap (λ (x : ℕ). check x q P (no h) ∷ cs) a ∙ ap (λ (x : ℕ). check n x P (no h) ∷ cs) b, refl, h)

module _ (f : ℕ → List Check) where
  pub each_none : (n i : ℕ) → n ≡ 0 → each f n i ≡ []
  unfolding each
  each_none n i h = ap (λ (k : ℕ). each f k i) h

  -- the step, with what is left after it named by the caller: `omega` proves `n ≡ m + 1`
  pub each_step : (n m i : ℕ) → n ≡ m + 1 → each f n i ≡ f i ++ each f m (i + 1)
  unfolding each
  each_step n m i h = ap (λ (k : ℕ). each f k i) (h ∙ add-one m)

  pub row-none : (n i : ℕ) (ys : List Check) → n ≡ 0 → first_fault (each f n i ++ ys) ≡ first_fault ys
  row-none n i ys h = ap (λ (l : List Check). first_fault (l ++ ys)) (each_none n i h)

  pub row_open : (n m i : ℕ) (ys : List Check) → n ≡ m + 1 → first_fault (each f n i ++ ys) ≡ first_fault (f i ++ (each f m (i + 1) ++ ys))
  row_open n m i ys h =
      ap (λ (l : List Check). first_fault (l ++ ys)) (each_step n m i h) ∙ ap first_fault (append_assoc (f i) (each f m (i + 1)) ys)

  pub row_more : (n m i : ℕ) (ys : List Check) → n ≡ m + 1 → Clean (f i) → first_fault (each f n i ++ ys) ≡ first_fault (each f m (i + 1) ++ ys)
  row_more n m i ys h e = row_open n m i ys h ∙ fault_append (f i) (each f m (i + 1) ++ ys) e

  pub row_stop : (n i : ℕ) (ys : List Check) {a b : ℕ} → 0 < n → first_fault (f i) ≡ Refused a b → first_fault (each f n i ++ ys) ≡ Refused a b
  row_stop n i ys h e = row_open n (n - 1) i ys (omega arith) ∙ fault_keep (f i) (each f (n - 1) (i + 1) ++ ys) e

  pub each_inv : (n i : ℕ) → Clean (each f n i) → (j : ℕ) → i ≤ j → j < i + n → Clean (f j)
  unfolding each
  each_inv zero i e j l h = absurd (not-suc-le-zero {n = 0} (omega arith))
  each_inv (suc n) i e j l h = go (λ d. each_inv n (i + 1) (append_inv (f i) (each f n (i + 1)) e).1 j d (omega arith)) (eq-or-lt_of_le l)
    where
      go : (i + 1 ≤ j → Clean (f j)) → (i ≡ j) ⊎ (i < j) → Clean (f j)
      go ih (inl q) = subst (λ (x : ℕ). Clean (f x)) q (append_inv (f i) (each f n (i + 1)) e).0
      go ih (inr d) = ih (omega arith)

  pub each_clean : (n i : ℕ) → ((j : ℕ) → i ≤ j → j < i + n → Clean (f j)) → Clean (each f n i)
  unfolding each first_fault
  each_clean zero i g = refl
  each_clean (suc n) i g =
      fault_append (f i) (each f n (i + 1)) (g i (omega arith) (omega arith)) ∙ each_clean n (i + 1) (λ j l h. g j (omega arith) (omega arith))

-- ---- truths that the code answers

module _ {P : Type 0} where
  pub tells_yes : P → Tells P true
  tells_yes h = record { so = λ w. h; not = λ w. absurd (true≢false w) }

  pub tells_no : (P → ⊥) → Tells P false
  tells_no h = record { so = λ w. absurd (false≢true w); not = λ w. h }

  -- false tells nothing
  pub unsure : Sure P false
  unsure w = absurd (false≢true w)

  pub tells_eqb : (a b : ℕ) → (a ≡ b → P) → (P → a ≡ b) → Tells P (eqb a b)
  tells_eqb a b f g = record { so = λ w. f (eqb-true a b w); not = λ w p. eqb-false a b w (g p) }

  pub tells_leb : (a b : ℕ) → (a ≤ b → P) → (P → a ≤ b) → Tells P (leb a b)
  tells_leb a b f g = record { so = λ w. f (leb-true a b w); not = λ w p. let l = leb-false a b w in let m = g p in omega arith }
