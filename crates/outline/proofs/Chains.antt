-- The chains of a tree that have at most so many places, one after the other in document order. Assumes nothing.
use mathlib.Core.Path.{◌≡◌, refl, sym, subst}
use mathlib.Core.Logic.{inl, inr, ⊎_elim}
use mathlib.Core.Bool.{Bool, true, false, cond}
use mathlib.Core.List.Memᴰ
use mathlib.Core.List.{List, [], ◌∷◌, ◌++◌, map, Memᴰ}
use Prim.Native.Nat.{ℕ, zero, suc, ◌+◌, ◌≤◌, ◌<◌}
use native.Mathlib.Nat.{add-zero, zero-add, not-suc-le-zero}
use native.Mathlib.Omega.{arith}
use borrow.Author.Tests.{eqb-false, ne_eqb}
use lib.Dec.{eqb}
use lib.ListN.{length}
use Rattle.verdict.specs.Checks.{SomeBelow}
use Rattle.tree.specs.Chain.{Tree, LiveIn, child, Chain, Before}
use Rattle.outline.specs.Lined.{leads, Rising}

-- f j ++ f (j + 1) ++ .., n of them
unfoldable pub row : (ℕ → List (List ℕ)) → ℕ → ℕ → List (List ℕ)
row f j zero = []
row f j (suc n) = f j ++ row f (j + 1) n

-- the chains from node a of at most n places: that of none, then those that begin with each place in order
unfoldable pub chains : Tree → ℕ → ℕ → List (List ℕ)
chains t zero a = [] ∷ []
chains t (suc n) a = [] ∷ row (λ j. cond (eqb (t.name (child t a j)) 0) [] (map (◌∷◌ j) (chains t n (child t a j)))) 0 (t.count a)

-- ---- rows

shift : (i j : ℕ) → i + 1 + j ≡ i + suc j
shift i j = omega arith

module _ (f : ℕ → List (List ℕ)) where
  row_mem : (i n : ℕ) (ps : List ℕ) → Memᴰ ps (row f i n) → SomeBelow n (λ j. Memᴰ ps (f (i + j)))
  unfolding row
  row_mem i zero ps m = absurd (Memᴰ.not-nil m)
  row_mem i (suc n) ps m =
      ⊎_elim
      (λ h. (0, omega arith, subst (λ (k : ℕ). Memᴰ ps (f k)) (sym (add-zero i)) h))
      (λ h. let r = row_mem (i + 1) n ps h in (suc r.0, omega (arith, r.1), subst (λ (k : ℕ). Memᴰ ps (f k)) (shift i r.0) r.2))
      (Memᴰ.append_cases (f i) m)

  mem_row : (i n : ℕ) (ps : List ℕ) (j : ℕ) → j < n → Memᴰ ps (f (i + j)) → Memᴰ ps (row f i n)
  unfolding row
  mem_row i zero ps j l m = absurd (not-suc-le-zero l)
  mem_row i (suc n) ps zero l m = Memᴰ.append_left (row f (i + 1) n) (subst (λ (k : ℕ). Memᴰ ps (f k)) (add-zero i) m)
  mem_row i (suc n) ps (suc j) l m =
      Memᴰ.append_right (f i) (mem_row (i + 1) n ps j (omega arith) (subst (λ (k : ℕ). Memᴰ ps (f k)) (sym (shift i j)) m))

rising-append : (k l : List (List ℕ)) → Rising k → Rising l → ((ps qs : List ℕ) → Memᴰ ps k → Memᴰ qs l → Before ps qs) → Rising (k ++ l)
unfolding Rising
rising-append [] l p q r = q
rising-append (x ∷ k) l p q r =
    (λ qs h. ⊎_elim (p.0 qs) (r x qs (Memᴰ.head refl)) (Memᴰ.append_cases k h), rising-append k l p.1 q (λ ps qs g h. r ps qs (Memᴰ.tail g) h))

rising-map : (j : ℕ) (l : List (List ℕ)) → Rising l → Rising (map (◌∷◌ j) l)
unfolding Rising Before
rising-map j [] p = tt
rising-map j (x ∷ l) p = (
  λ qs h. let r = Memᴰ.of_map (◌∷◌ j) l h in subst (Before (j ∷ x)) r.2 (inr (refl, p.0 r.0 r.1)),
  rising-map j l p.1,
)

rising-row : (f : ℕ → List (List ℕ)) (i n : ℕ) → ((j : ℕ) → j < n → Rising (f (i + j)))
    → ((j k : ℕ) (ps qs : List ℕ) → j < k → k < n → Memᴰ ps (f (i + j)) → Memᴰ qs (f (i + k)) → Before ps qs) → Rising (row f i n)
unfolding row Rising
rising-row f i zero p q = tt
rising-row f i (suc n) p q =
    rising-append (f i) (row f (i + 1) n)
    (subst (λ (k : ℕ). Rising (f k)) (add-zero i) (p 0 (omega arith)))
    (rising-row f (i + 1) n
    (λ j l. subst (λ (k : ℕ). Rising (f k)) (sym (shift i j)) (p (suc j) (omega arith)))
    (λ j k ps qs l m g h. q (suc j) (suc k) ps qs (omega arith) (omega arith)
    (subst (λ (x : ℕ). Memᴰ ps (f x)) (shift i j) g)
    (subst (λ (x : ℕ). Memᴰ qs (f x)) (shift i k) h)))
    (λ ps qs g h.
    let r = row_mem f (i + 1) n qs h in
    q 0 (suc r.0) ps qs (omega arith) (omega (arith, r.1))
    (subst (λ (x : ℕ). Memᴰ ps (f x)) (sym (add-zero i)) g)
    (subst (λ (x : ℕ). Memᴰ qs (f x)) (shift i r.0) r.2))

-- ---- the chains

-- those from node a that begin with place j, if the child there is live
abbrev pub through : Tree → ℕ → ℕ → ℕ → List (List ℕ)
through t n a j = cond (eqb (t.name (child t a j)) 0) [] (map (◌∷◌ j) (chains t n (child t a j)))

module _ (t : Tree) where
  -- a chain leads to one node
  pub chain-leads : (ps : List ℕ) (a e : ℕ) → Chain t ps a e → e ≡ leads t a ps
  unfolding Chain leads
  chain-leads [] a e c = c
  chain-leads (j ∷ ps) a e c = chain-leads ps (child t a j) e c.1.1

  through_mem : (n a j : ℕ) (qs : List ℕ) → Memᴰ qs (through t n a j)
      → LiveIn t (child t a j) × ((ps : List ℕ) × (qs ≡ j ∷ ps) × Memᴰ ps (chains t n (child t a j)))
  through_mem n a j qs m = go (eqb (t.name (child t a j)) 0) refl m
    where
      go : (x : Bool) → eqb (t.name (child t a j)) 0 ≡ x → Memᴰ qs (cond x [] (map (◌∷◌ j) (chains t n (child t a j))))
          → LiveIn t (child t a j) × ((ps : List ℕ) × (qs ≡ j ∷ ps) × Memᴰ ps (chains t n (child t a j)))
      go true q h = absurd (Memᴰ.not-nil h)
      go false q h = let r = Memᴰ.of_map (◌∷◌ j) (chains t n (child t a j)) h in (eqb-false (t.name (child t a j)) 0 q, (r.0, sym r.2, r.1))

  mem_through : (n a j : ℕ) (ps : List ℕ) → LiveIn t (child t a j) → Memᴰ ps (chains t n (child t a j)) → Memᴰ (j ∷ ps) (through t n a j)
  mem_through n a j ps h m = rw (ne_eqb (t.name (child t a j)) 0 h) (Memᴰ.map (◌∷◌ j) m)

  -- each is a chain of at most n places
  pub chains-sound : (n a : ℕ) (ps : List ℕ) → Memᴰ ps (chains t n a) → (length ps ≤ n) × Chain t ps a (leads t a ps)
  unfolding chains Chain leads
  chains-sound zero a ps m = rw (Memᴰ.eq_of_singleton m) (omega arith, refl)
  chains-sound (suc n) a ps m =
      ⊎_elim
      (λ q. rw q (omega arith, refl))
      (λ h.
      let r = row_mem (through t n a) 0 (t.count a) ps h in
      let w = through_mem n a r.0 ps (rw zero-add at r.2) in
      let s = chains-sound n (child t a r.0) w.1.0 w.1.2 in
      rw w.1.1 (omega (arith, s.0), (r.1, (w.0, s.1))))
      (Memᴰ.cases_cons m)

  -- each chain of at most n places is one of them
  pub chains-complete : (n a : ℕ) (ps : List ℕ) (e : ℕ) → length ps ≤ n → Chain t ps a e → Memᴰ ps (chains t n a)
  unfolding chains Chain
  chains-complete zero a [] e l c = Memᴰ.head refl
  chains-complete zero a (j ∷ ps) e l c = absurd (omega arith)
  chains-complete (suc n) a [] e l c = Memᴰ.head refl
  chains-complete (suc n) a (j ∷ ps) e l c =
      Memᴰ.tail (mem_row (through t n a) 0 (t.count a) (j ∷ ps) j c.0
      (rw zero-add (mem_through n a j ps c.1.0 (chains-complete n (child t a j) ps e (omega arith) c.1.1))))

  rising_through : (n a j : ℕ) → Rising (chains t n (child t a j)) → Rising (through t n a j)
  unfolding Rising
  rising_through n a j h = go (eqb (t.name (child t a j)) 0)
    where
      go : (x : Bool) → Rising (cond x [] (map (◌∷◌ j) (chains t n (child t a j))))
      go true = tt
      go false = rising-map j (chains t n (child t a j)) h

  -- and they stand in document order
  pub chains-rising : (n a : ℕ) → Rising (chains t n a)
  unfolding chains Rising Before
  chains-rising zero a = (λ qs h. absurd (Memᴰ.not-nil h), tt)
  chains-rising (suc n) a = (
    λ qs h. let r = row_mem (through t n a) 0 (t.count a) qs h in rw (through_mem n a _ qs r.2).1.1 tt,
    rising-row (through t n a) 0 (t.count a) (λ j l. rising_through n a (0 + j) (chains-rising n (child t a (0 + j)))) across,
  )
    where
      across : (j k : ℕ) (ps qs : List ℕ) → j < k → k < t.count a → Memᴰ ps (through t n a (0 + j)) → Memᴰ qs (through t n a (0 + k)) → Before ps qs
      across j k ps qs l m g h =
          let u = through_mem n a (0 + j) ps g in
          let v = through_mem n a (0 + k) qs h in
          rw (u.1.1, v.1.1) (inl (omega arith))
