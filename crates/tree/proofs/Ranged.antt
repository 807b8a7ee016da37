-- Laws of `ranged`: none, one more at either end, its members, its first, and of any two the earlier in R to the later. Assumes nothing.
use mathlib.Core.Path.{◌≡◌, refl, sym, ap, subst, ◌∙◌}
use mathlib.Core.Logic.{⊎_elim}
use mathlib.Core.List.Memᴰ
use mathlib.Core.List.{List, [], ◌∷◌, ◌++◌, append_assoc, append-nil, Memᴰ}
use Prim.Native.Nat.{ℕ, zero, suc, ◌+◌, ◌<◌}
use native.Mathlib.Nat.{add-zero, not-suc-le-zero}
use native.Mathlib.Numerals.{add-one}
use native.Mathlib.Omega.{arith}
use Rattle.verdict.specs.Checks.{SomeBelow}
use Rattle.tree.specs.Chain.{ranged, Pairs}

-- a list whose first is known is not empty
pub not_cons : {e : ℕ} {l : List ℕ} → [] ≡ e ∷ l → ⊥
not_cons q = let z : ◌≡◌ {A = ℕ} 0 1 = cc in omega arith

shift : (a j : ℕ) → a + 1 + j ≡ a + suc j
shift a j = omega arith

module _ (f : ℕ → List ℕ) where
  pub ranged-none : (a n : ℕ) → n ≡ 0 → ranged f a n ≡ []
  unfolding ranged
  ranged-none a n e = rw e

  -- the first, with how many are left after it named by the caller: `omega` proves `n ≡ m + 1`
  pub ranged_open : (a n m : ℕ) → n ≡ m + 1 → ranged f a n ≡ f a ++ ranged f (a + 1) m
  unfolding ranged
  ranged_open a n m e = ap (ranged f a) (e ∙ add-one m)

  ranged-last : (a n : ℕ) → ranged f a (suc n) ≡ ranged f a n ++ f (a + n)
  unfolding ranged
  ranged-last a zero = append-nil (f a) ∙ ap f (sym (add-zero a))
  ranged-last a (suc n) =
      ap (λ (r : List ℕ). f a ++ r) (ranged-last (a + 1) n)
      ∙ sym (append_assoc (f a) (ranged f (a + 1) n) (f (a + 1 + n)))
      ∙ ap (λ (k : ℕ). f a ++ ranged f (a + 1) n ++ f k) (shift a n)

  -- the last
  pub ranged_more : (a n : ℕ) → ranged f a (n + 1) ≡ ranged f a n ++ f (a + n)
  ranged_more a n = rw add-one (ranged-last a n)

  -- the members are those of each
  pub ranged_mem : (a n e : ℕ) → Memᴰ e (ranged f a n) → SomeBelow n (λ j. Memᴰ e (f (a + j)))
  unfolding ranged
  ranged_mem a zero e m = absurd (Memᴰ.not-nil m)
  ranged_mem a (suc n) e m =
      ⊎_elim
      (λ h. (0, omega arith, subst (λ (k : ℕ). Memᴰ e (f k)) (sym (add-zero a)) h))
      (λ h. let r = ranged_mem (a + 1) n e h in (suc r.0, omega (arith, r.1), subst (λ (k : ℕ). Memᴰ e (f k)) (shift a r.0) r.2))
      (Memᴰ.append_cases (f a) m)

  pub mem_ranged : (a n e j : ℕ) → j < n → Memᴰ e (f (a + j)) → Memᴰ e (ranged f a n)
  unfolding ranged
  mem_ranged a zero e j l m = absurd (not-suc-le-zero l)
  mem_ranged a (suc n) e zero l m = Memᴰ.append_left (ranged f (a + 1) n) (subst (λ (k : ℕ). Memᴰ e (f k)) (add-zero a) m)
  mem_ranged a (suc n) e (suc j) l m =
      Memᴰ.append_right (f a) (mem_ranged (a + 1) n e j (omega arith) (subst (λ (k : ℕ). Memᴰ e (f k)) (sym (shift a j)) m))

  -- the first comes from the first that has one
  pub ranged-first : (a n e : ℕ) (l : List ℕ) → ranged f a n ≡ e ∷ l
      → SomeBelow n (λ j. ((r : List ℕ) × (f (a + j) ≡ e ∷ r)) × ((i : ℕ) → i < j → f (a + i) ≡ []))
  unfolding ranged
  ranged-first a zero e l q = absurd (not_cons q)
  ranged-first a (suc n) e l q = go (f a) refl (ranged-first (a + 1) n e l)
    where
      go : (x : List ℕ) → f a ≡ x
          → (ranged f (a + 1) n ≡ e ∷ l → SomeBelow n (λ j. ((r : List ℕ) × (f (a + 1 + j) ≡ e ∷ r)) × ((i : ℕ) → i < j → f (a + 1 + i) ≡ [])))
          → SomeBelow (suc n) (λ j. ((r : List ℕ) × (f (a + j) ≡ e ∷ r)) × ((i : ℕ) → i < j → f (a + i) ≡ []))
      go [] h ih =
          let w = ih (ap (λ (x : List ℕ). x ++ ranged f (a + 1) n) (sym h) ∙ q) in
          (suc w.0, omega (arith, w.1), ((w.2.0.0, ap f (sym (shift a w.0)) ∙ w.2.0.1), before w.0 w.2.1))
        where
          before : (k : ℕ) → ((i : ℕ) → i < k → f (a + 1 + i) ≡ []) → (i : ℕ) → i < suc k → f (a + i) ≡ []
          before k g zero m = ap f (add-zero a) ∙ h
          before k g (suc i) m = ap f (sym (shift a i)) ∙ g i (omega arith)
      go (d ∷ r) h ih =
          let t = ap (λ (x : List ℕ). x ++ ranged f (a + 1) n) (sym h) ∙ q in
          let s : d ≡ e = cc in
          (0, omega arith, ((r, ap f (add-zero a) ∙ h ∙ ap (λ (x : ℕ). x ∷ r) s), λ i m. absurd (not-suc-le-zero m)))

module _ (R : ℕ → ℕ → Type 0) where
  pub pairs_append : (l m : List ℕ) → Pairs R l → Pairs R m → ((a b : ℕ) → Memᴰ a l → Memᴰ b m → R a b) → Pairs R (l ++ m)
  unfolding Pairs
  pairs_append [] m p q r = q
  pairs_append (x ∷ l) m p q r =
      (λ b h. ⊎_elim (p.0 b) (r x b (Memᴰ.head refl)) (Memᴰ.append_cases l h), pairs_append l m p.1 q (λ a b g h. r a b (Memᴰ.tail g) h))

  -- in pairs, where each is, and any two are, the earlier to the later
  pub pairs_ranged : (f : ℕ → List ℕ) (a n : ℕ) → ((j : ℕ) → j < n → Pairs R (f (a + j)))
      → ((j k b c : ℕ) → j < k → k < n → Memᴰ b (f (a + j)) → Memᴰ c (f (a + k)) → R b c) → Pairs R (ranged f a n)
  unfolding ranged Pairs
  pairs_ranged f a zero p q = tt
  pairs_ranged f a (suc n) p q =
      pairs_append (f a) (ranged f (a + 1) n)
      (subst (λ (k : ℕ). Pairs R (f k)) (add-zero a) (p 0 (omega arith)))
      (pairs_ranged f (a + 1) n
      (λ j l. subst (λ (k : ℕ). Pairs R (f k)) (sym (shift a j)) (p (suc j) (omega arith)))
      (λ j k b c l m g h. q (suc j) (suc k) b c (omega arith) (omega arith)
      (subst (λ (i : ℕ). Memᴰ b (f i)) (shift a j) g)
      (subst (λ (i : ℕ). Memᴰ c (f i)) (shift a k) h)))
      (λ b c g h.
      let r = ranged_mem f (a + 1) n c h in
      q 0 (suc r.0) b c (omega arith) (omega (arith, r.1))
      (subst (λ (i : ℕ). Memᴰ b (f i)) (sym (add-zero a)) g)
      (subst (λ (i : ℕ). Memᴰ c (f i)) (shift a r.0) r.2))
