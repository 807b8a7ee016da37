-- How rules are decided. Nothing here says what a rule is: a decision is right by its type.
use Rattle.std.specs.Prelude.{ℕ, zero, suc, ◌<◌, ◌≡◌, refl, List, [], ◌∷◌, ◌⊎◌}
use Rattle.std.proofs.Common.{not-suc-le-zero, le_of_suc-le-suc, eq-or-lt_of_le, arith, subst, sym, inl, inr, ⊎_elim}
use Rattle.std.proofs.Math.Decide.{ℕ_discrete}
use Rattle.verdict.specs.Checks.{SomeBelow}

unfoldable pub some_below? : (n : ℕ) {P : ℕ → Type 0} → ((i : ℕ) → Dec (P i)) → Dec (SomeBelow n P)
some_below? zero d = no (λ w. not-suc-le-zero w.1)
some_below? (suc n) {P} d = go (d n) (some_below? n d)
  where
    out : (P n → ⊥) → (SomeBelow n P → ⊥) → (i : ℕ) → P i → (i ≡ n) ⊎ (i < n) → ⊥
    out f g i p (inl q) = f (subst P q p)
    out f g i p (inr l) = g (i, l, p)

    go : Dec (P n) → Dec (SomeBelow n P) → Dec (SomeBelow (suc n) P)
    go (yes p) e = yes (n, omega arith, p)
    go (no f) (yes w) = yes (w.0, omega (arith, w.1), w.2)
    go (no f) (no g) = no (λ w. out f g w.0 w.2 (eq-or-lt_of_le (le_of_suc-le-suc w.1)))

unfoldable pub dec_by : {A B : Type 0} → (A → B) → (B → A) → Dec A → Dec B
dec_by f g (yes a) = yes (f a)
dec_by f g (no n) = no (λ b. n (g b))

-- two texts are the same
unfoldable pub texts? : (a b : List ℕ) → Dec (a ≡ b)
texts? [] [] = yes refl
texts? [] (y ∷ ys) = no (λ e. let z : ◌≡◌ {A = ℕ} 0 1 = cc in omega arith)
texts? (x ∷ xs) [] = no (λ e. let z : ◌≡◌ {A = ℕ} 0 1 = cc in omega arith)
texts? (x ∷ xs) (y ∷ ys) = go (ℕ_discrete x y) (texts? xs ys)
  where
    go : Dec (x ≡ y) → Dec (xs ≡ ys) → Dec (x ∷ xs ≡ y ∷ ys)
    go (yes p) (yes q) = yes (cc)
    go (yes p) (no g) = no (λ e. g (cc))
    go (no f) d = no (λ e. f (cc))

-- one of two
unfoldable pub either? : {A B : Type 0} → Dec A → Dec B → Dec (A ⊎ B)
either? (yes a) d = yes (inl a)
either? (no f) (yes b) = yes (inr b)
either? (no f) (no g) = no (⊎_elim f g)

-- the one, if the other
unfoldable pub implies? : {A B : Type 0} → Dec A → Dec B → Dec (A → B)
implies? (no f) d = yes (λ a. absurd (f a))
implies? (yes a) (yes b) = yes (λ w. b)
implies? (yes a) (no g) = no (λ h. g (h a))

-- each below n
unfoldable pub all_below? : (n : ℕ) {P : ℕ → Type 0} → ((i : ℕ) → Dec (P i)) → Dec ((i : ℕ) → i < n → P i)
all_below? zero d = yes (λ i h. absurd (not-suc-le-zero h))
all_below? (suc n) {P} d = go (d n) (all_below? n d)
  where
    on : ((i : ℕ) → i < n → P i) → P n → (i : ℕ) → (i ≡ n) ⊎ (i < n) → P i
    on f p i (inl q) = subst P (sym q) p
    on f p i (inr l) = f i l

    go : Dec (P n) → Dec ((i : ℕ) → i < n → P i) → Dec ((i : ℕ) → i < suc n → P i)
    go (no f) e = no (λ h. f (h n (omega arith)))
    go (yes p) (no g) = no (λ h. g (λ i l. h i (omega arith)))
    go (yes p) (yes f) = yes (λ i l. on f p i (eq-or-lt_of_le (le_of_suc-le-suc l)))
