-- `matches` lists the ends of the chains that bear the names, and of any two the earlier is the end of the earlier chain. Assumes nothing.
use mathlib.Core.Path.{◌≡◌, refl, sym, ap, subst}
use mathlib.Core.Logic.{inl, inr, ⊎_elim}
use mathlib.Core.Bool.{Bool, true, false, cond, not, ◌&&◌, false≢true}
use mathlib.Core.List.Memᴰ
use mathlib.Core.List.{List, [], ◌∷◌, Memᴰ}
use Prim.Native.Nat.{ℕ, suc, ◌<◌}
use native.Mathlib.Nat.{lt_irrefl}
use native.Mathlib.Omega.{arith}
use borrow.Author.Tests.{ne_eqb, eqb-false}
use lib.Dec.{eqb}
use lib.ListN.{length}
use Rattle.verdict.specs.Decide.{texts?}
use Rattle.tree.specs.Chain.{Tree, LiveIn, child, Chain, Before, Pairs}
use Rattle.tree.proofs.Ranged.{ranged_mem, mem_ranged, pairs_ranged}
use Rattle.path.specs.Matches.{BearingChain}
use Rattle.path.specs.Listing.{truth_of, matches}

-- whether the node c is live and its text is x
abbrev pub bearing : Tree → (ℕ → List ℕ) → List ℕ → ℕ → Bool
bearing t text x c = not (eqb (t.name c) 0) && truth_of (texts? (text (t.name c)) x)

-- what the element c of a child range adds: the matches below it, where it is live and its text is x
abbrev pub matches_below : Tree → (ℕ → List ℕ) → List ℕ → List (List ℕ) → ℕ → List ℕ
matches_below t text x xs c = cond (bearing t text x c) (matches t text xs c) []

truth_yes : {P : Type 0} (d : Dec P) → P → truth_of d ≡ true
unfolding truth_of
truth_yes (yes p) h = refl
truth_yes (no f) h = absurd (f h)

yes_truth : {P : Type 0} (d : Dec P) → truth_of d ≡ true → P
unfolding truth_of
yes_truth (yes p) h = p
yes_truth (no f) h = absurd (false≢true h)

both : (a b : Bool) → not a && b ≡ true → (a ≡ false) × (b ≡ true)
both true b h = absurd (false≢true h)
both false b h = (refl, h)

module _ (t : Tree) (text : ℕ → List ℕ) where
  module _ (x : List ℕ) (c : ℕ) where
    pub bearing_yes : LiveIn t c → text (t.name c) ≡ x → bearing t text x c ≡ true
    bearing_yes h q = rw (ne_eqb (t.name c) 0 h) (truth_yes (texts? (text (t.name c)) x) q)

    pub yes_bearing : bearing t text x c ≡ true → LiveIn t c × (text (t.name c) ≡ x)
    yes_bearing h =
        let w = both (eqb (t.name c) 0) _ h in
        (eqb-false (t.name c) 0 w.0, yes_truth (texts? (text (t.name c)) x) w.1)

    pub bearing_no : (LiveIn t c → text (t.name c) ≡ x → ⊥) → bearing t text x c ≡ false
    bearing_no f = go (bearing t text x c) refl
      where
        go : (b : Bool) → bearing t text x c ≡ b → bearing t text x c ≡ false
        go true q = let w = yes_bearing q in absurd (f w.0 w.1)
        go false q = q

    below_mem : (xs : List (List ℕ)) (e : ℕ) → Memᴰ e (matches_below t text x xs c)
        → LiveIn t c × ((text (t.name c) ≡ x) × Memᴰ e (matches t text xs c))
    below_mem xs e m = go (bearing t text x c) refl m
      where
        go : (b : Bool) → bearing t text x c ≡ b → Memᴰ e (cond b (matches t text xs c) [])
            → LiveIn t c × ((text (t.name c) ≡ x) × Memᴰ e (matches t text xs c))
        go true q h = let w = yes_bearing q in (w.0, (w.1, h))
        go false q h = absurd (Memᴰ.not-nil h)

    mem_below : (xs : List (List ℕ)) (e : ℕ) → LiveIn t c → text (t.name c) ≡ x → Memᴰ e (matches t text xs c)
        → Memᴰ e (matches_below t text x xs c)
    mem_below xs e h q m = subst (λ (b : Bool). Memᴰ e (cond b (matches t text xs c) [])) (sym (bearing_yes h q)) m

  -- a chain that bears names is a chain, of as many places
  pub bearing_chain : (xs : List (List ℕ)) (ps : List ℕ) (a e : ℕ) → BearingChain t text xs ps a e → Chain t ps a e
  unfolding BearingChain Chain
  bearing_chain [] [] a e h = h
  bearing_chain [] (j ∷ ps) a e h = absurd h
  bearing_chain (x ∷ xs) [] a e h = absurd h
  bearing_chain (x ∷ xs) (j ∷ ps) a e h = (h.0, (h.1.0, bearing_chain xs ps (child t a j) e h.1.1.1))

  pub bearing_length : (xs : List (List ℕ)) (ps : List ℕ) (a e : ℕ) → BearingChain t text xs ps a e → length ps ≡ length xs
  unfolding BearingChain
  bearing_length [] [] a e h = refl
  bearing_length [] (j ∷ ps) a e h = absurd h
  bearing_length (x ∷ xs) [] a e h = absurd h
  bearing_length (x ∷ xs) (j ∷ ps) a e h = ap suc (bearing_length xs ps (child t a j) e h.1.1.1)

  -- each match is the end of a chain that bears the names, and each end of one is a match
  pub sound : (xs : List (List ℕ)) (a e : ℕ) → Memᴰ e (matches t text xs a) → (ps : List ℕ) × BearingChain t text xs ps a e
  unfolding matches BearingChain
  sound [] a e m = ([], Memᴰ.eq_of_singleton m)
  sound (x ∷ xs) a e m =
      let r = ranged_mem (matches_below t text x xs) (t.first a) (t.count a) e m in
      let p = below_mem x (child t a r.0) xs e r.2 in
      let q = sound xs (child t a r.0) e p.1.1 in
      (r.0 ∷ q.0, (r.1, (p.0, (p.1.0, q.1))))

  pub complete : (xs : List (List ℕ)) (ps : List ℕ) (a e : ℕ) → BearingChain t text xs ps a e → Memᴰ e (matches t text xs a)
  unfolding matches BearingChain
  complete [] [] a e h = Memᴰ.head h
  complete [] (j ∷ ps) a e h = absurd h
  complete (x ∷ xs) [] a e h = absurd h
  complete (x ∷ xs) (j ∷ ps) a e h =
      mem_ranged (matches_below t text x xs) (t.first a) (t.count a) e j h.0
      (mem_below x (child t a j) xs e h.1.0 h.1.1.0 (complete xs ps (child t a j) e h.1.1.1))

-- two nodes end chains from node a that bear the names, one before the other
abbrev pub Follows : Tree → (ℕ → List ℕ) → List (List ℕ) → ℕ → ℕ → ℕ → Type 0
Follows t text xs a d e =
    (ps : List ℕ) × (qs : List ℕ) × BearingChain t text xs ps a d × BearingChain t text xs qs a e × Before ps qs

pub pairs_mono : (R S : ℕ → ℕ → Type 0) (l : List ℕ) → ((a b : ℕ) → R a b → S a b) → Pairs R l → Pairs S l
unfolding Pairs
pairs_mono R S [] f p = tt
pairs_mono R S (x ∷ l) f p = (λ b h. f x b (p.0 b h), pairs_mono R S l f p.1)

pub before_irrefl : (ps : List ℕ) → Before ps ps → ⊥
unfolding Before
before_irrefl [] h = h
before_irrefl (p ∷ ps) h = ⊎_elim (λ l. lt_irrefl p l) (λ r. before_irrefl ps r.1) h

module _ (t : Tree) (text : ℕ → List ℕ) where
  pub ordered : (xs : List (List ℕ)) (a : ℕ) → Pairs (Follows t text xs a) (matches t text xs a)
  unfolding matches Pairs BearingChain Before
  ordered [] a = (λ b h. absurd (Memᴰ.not-nil h), tt)
  ordered (x ∷ xs) a =
      pairs_ranged (Follows t text (x ∷ xs) a) (matches_below t text x xs) (t.first a) (t.count a)
      (λ j l. within j l (ordered xs (child t a j)) (bearing t text x (child t a j)) refl)
      across
    where
      within : (j : ℕ) → j < t.count a → Pairs (Follows t text xs (child t a j)) (matches t text xs (child t a j))
          → (b : Bool) → bearing t text x (child t a j) ≡ b → Pairs (Follows t text (x ∷ xs) a) (cond b (matches t text xs (child t a j)) [])
      within j l ih true q =
          let w = yes_bearing t text x (child t a j) q in
          pairs_mono _ _ (matches t text xs (child t a j))
          (λ b c f. (j ∷ f.0, j ∷ f.1, (l, (w.0, (w.1, f.2))), (l, (w.0, (w.1, f.3))), inr (refl, f.4)))
          ih
      within j l ih false q = tt

      across : (j k b c : ℕ) → j < k → k < t.count a → Memᴰ b (matches_below t text x xs (child t a j)) → Memᴰ c (matches_below t text x xs (child t a k))
          → Follows t text (x ∷ xs) a b c
      across j k b c l m g h =
          let u = below_mem t text x (child t a j) xs b g in
          let v = below_mem t text x (child t a k) xs c h in
          let p = sound t text xs (child t a j) b u.1.1 in
          let q = sound t text xs (child t a k) c v.1.1 in
          (j ∷ p.0, k ∷ q.0, (omega arith, (u.0, (u.1.0, p.1))), (m, (v.0, (v.1.0, q.1))), inl l)
