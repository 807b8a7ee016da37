-- The names of a path by their indices: which nodes they lead to, and when they lead to none. Assumes nothing.
use mathlib.Core.Path.{◌≡◌, refl, sym, ap, ◌∙◌}
use mathlib.Core.Logic.{by_cases}
use mathlib.Core.Bool.{cond}
use mathlib.Core.List.{List, [], ◌∷◌, Memᴰ}
use Prim.Native.Nat.{ℕ, zero, suc, ◌+◌, ◌/◌, ◌%◌, ◌≤◌, ◌<◌}
use native.Mathlib.Nat.{add-zero, not-suc-le-zero}
use native.Mathlib.Decide.{ℕ_discrete}
use native.Mathlib.Omega.{arith}
use borrow.Author.Tests.{eq-eqb, ne_eqb}
use lib.Dec.{eqb}
use lib.ListN.{length, get_or}
use Rattle.layout.specs.declared.Edition.{Edition}
use Rattle.keys.specs.Names.{name_count, name_text, Bears}
use Rattle.tree.specs.Chain.{LiveIn, child, ranged, deepest_level}
use Rattle.tree.specs.File.{node_of, Used, tree_of}
use Rattle.tree.proofs.Depths.{no_longer}
use Rattle.accept.specs.Rules.{FileRules}
use Rattle.path.specs.Names.{names_of, name_at}
use Rattle.path.specs.Matches.{BearingChain}
use Rattle.path.specs.Listing.{matches, path_matches}
use Rattle.path.specs.inner.Indices.{matches_at}
use Rattle.path.proofs.Found.{matches_below, bearing_yes, bearing_no, bearing_chain, bearing_length, sound}
use Rattle.path.proofs.Listed.{parents}

-- two ranges that are the same element by element
ranged-same : (f g : ℕ → List ℕ) (a n : ℕ) → ((j : ℕ) → j < n → f (a + j) ≡ g (a + j)) → ranged f a n ≡ ranged g a n
unfolding ranged
ranged-same f g a zero h = refl
ranged-same f g a (suc n) h =
    let z = add-zero a in
    let p : f a ≡ g a = ap f (sym z) ∙ h 0 (omega arith) ∙ ap g z in
    rw (p, ranged-same f g (a + 1) n (λ j l. let e : a + 1 + j ≡ a + suc j = omega arith in rw e (h (suc j) (omega arith))))

-- a list that nothing is in
empty : (l : List ℕ) → ((e : ℕ) → Memᴰ e l → ⊥) → l ≡ []
empty [] f = refl
empty (e ∷ l) f = absurd (f e (Memᴰ.head refl))

-- as many indices as names, each the index of its name
pub record Indexes (ed : Edition) (b : List ℕ) (xs : List (List ℕ)) (is : List ℕ) : Type 0 where
  pub many : length is ≡ length xs
  pub each : (i : ℕ) → i < length xs → Bears ed b (get_or is i 0) (name_at xs i)

module _ {ed : Edition} {b : List ℕ} {x : List ℕ} {xs : List (List ℕ)} {i : ℕ} {is : List ℕ} (h : Indexes ed b (x ∷ xs) (i ∷ is)) where
  first-index : Bears ed b i x
  unfolding name_at
  first-index = h.each 0 (omega arith)

  rest_indexes : Indexes ed b xs is
  unfolding name_at
  rest_indexes = record { many = omega (arith, h.many); each = λ k l. h.each (suc k) (omega arith) }

module _ (ed : Edition) (b : List ℕ) (r : FileRules ed b) where
  used-name : (a : ℕ) → Used ed b a → (tree_of ed b).name a ≤ name_count ed b
  unfolding tree_of node_of
  used-name a u = (r.nodes.each (a / 65536) (a % 65536) u).node.name

  -- a live node's name index bears its text
  used_bears : (a : ℕ) → Used ed b a → LiveIn (tree_of ed b) a → Bears ed b ((tree_of ed b).name a) (name_text ed b ((tree_of ed b).name a))
  used_bears a u l = record { low = omega arith; high = used-name a u; text = refl }

  -- each name that a chain bears is a name of the file
  chain_bears : (xs : List (List ℕ)) (ps : List ℕ) (a e : ℕ) → Used ed b a → BearingChain (tree_of ed b) (name_text ed b) xs ps a e
      → (i : ℕ) → i < length xs → (k : ℕ) × Bears ed b k (name_at xs i)
  unfolding BearingChain name_at
  chain_bears [] ps a e u h i l = absurd (not-suc-le-zero l)
  chain_bears (x ∷ xs) [] a e u h i l = absurd h
  chain_bears (x ∷ xs) (j ∷ ps) a e u h zero l =
      let c = child (tree_of ed b) a j in
      ((tree_of ed b).name c, rw (sym h.1.1.0) (used_bears c ((parents ed b r).within a j u h.0) h.1.0))
  chain_bears (x ∷ xs) (j ∷ ps) a e u h (suc i) l =
      chain_bears xs ps (child (tree_of ed b) a j) e ((parents ed b r).within a j u h.0) h.1.1.1 i (omega arith)

  module _ (path : List ℕ) where
    -- a name that no index bears
    pub unknown_none : (i : ℕ) → i < length (names_of path) → ((k : ℕ) → Bears ed b k (name_at (names_of path) i) → ⊥) → path_matches ed b path ≡ []
    unfolding path_matches
    unknown_none i l f =
        empty _ (λ e m.
        let s = sound (tree_of ed b) (name_text ed b) (names_of path) 0 e m in
        let w = chain_bears (names_of path) s.0 0 e r.nodes.root s.1 i l in
        f w.0 w.1)

    -- more names than a chain has places
    pub long-none : deepest_level < length (names_of path) → path_matches ed b path ≡ []
    unfolding path_matches
    long-none l =
        empty _ (λ e m.
        let s = sound (tree_of ed b) (name_text ed b) (names_of path) 0 e m in
        let n = bearing_length (tree_of ed b) (name_text ed b) (names_of path) s.0 0 e s.1 in
        let d = no_longer (tree_of ed b) deepest_level 0 s.0 e r.depth (bearing_chain (tree_of ed b) (name_text ed b) (names_of path) s.0 0 e s.1) in omega arith)

  module _ (one : (i k : ℕ) (x : List ℕ) → Bears ed b i x → Bears ed b k x → i ≡ k) where
    -- a child bears a name exactly when it has its index
    below_at : (x : List ℕ) (xs : List (List ℕ)) (i : ℕ) (is : List ℕ) (c : ℕ) → Bears ed b i x → Used ed b c
        → matches (tree_of ed b) (name_text ed b) xs c ≡ matches_at (tree_of ed b) is c
        → matches_below (tree_of ed b) (name_text ed b) x xs c ≡ cond (eqb ((tree_of ed b).name c) i) (matches_at (tree_of ed b) is c) []
    below_at x xs i is c h u q =
        by_cases (ℕ_discrete ((tree_of ed b).name c) i)
        (λ e. let z = h.low in
        rw (bearing_yes (tree_of ed b) (name_text ed b) x c (λ w. omega arith) (ap (name_text ed b) e ∙ h.text), eq-eqb ((tree_of ed b).name c) i e) q)
        (λ f.
        rw (bearing_no (tree_of ed b) (name_text ed b) x c (λ l t. f (one _ i x (rw (sym t) (used_bears c u l)) h)), ne_eqb ((tree_of ed b).name c) i f))

    -- the matches by name are the matches by name index
    pub matches_by_index : (xs : List (List ℕ)) (is : List ℕ) → Indexes ed b xs is → (a : ℕ) → Used ed b a
        → matches (tree_of ed b) (name_text ed b) xs a ≡ matches_at (tree_of ed b) is a
    unfolding matches matches_at
    matches_by_index [] [] h a u = refl
    matches_by_index [] (i ∷ is) h a u = absurd (omega (arith, h.many))
    matches_by_index (x ∷ xs) [] h a u = absurd (omega (arith, h.many))
    matches_by_index (x ∷ xs) (i ∷ is) h a u =
        ranged-same _ _ ((tree_of ed b).first a) ((tree_of ed b).count a)
        (λ j l.
        let v = (parents ed b r).within a j u l in
        below_at x xs i is _ (first-index h) v (matches_by_index xs is (rest_indexes h) _ v))
