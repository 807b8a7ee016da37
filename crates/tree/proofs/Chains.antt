-- `ends` lists the ends of the chains of so many places, and its first is the first in document order. Assumes nothing.
use mathlib.Core.Path.{◌≡◌, refl, sym, ap, subst, ◌∙◌}
use mathlib.Core.Logic.{◌↔◌, ⊎_elim}
use mathlib.Core.Bool.{Bool, true, false, cond}
use mathlib.Core.List.Memᴰ
use mathlib.Core.List.{List, [], ◌∷◌, Memᴰ}
use Prim.Native.Nat.{ℕ, zero, suc, ◌<◌}
use native.Mathlib.Omega.{arith}
use borrow.Author.Tests.{ne_eqb, eq-eqb, eqb-false}
use lib.Dec.{eqb}
use lib.ListN.{length}
use Rattle.tree.specs.Chain.{Tree, LiveIn, child, Chain, Before, ends}
use Rattle.tree.specs.Rules.{Deep, FirstDeep}
use Rattle.tree.proofs.Ranged.{not_cons, ranged_mem, mem_ranged, ranged-first}

-- what the element c of a child range adds: the ends below it, where it is live
abbrev pub ends_below : Tree → ℕ → ℕ → List ℕ
ends_below t n c = cond (eqb (t.name c) 0) [] (ends t n c)

module _ (t : Tree) where
  pub below-live : (n c : ℕ) → LiveIn t c → ends_below t n c ≡ ends t n c
  below-live n c h = rw (ne_eqb (t.name c) 0 h)

  pub below_nameless : (n c : ℕ) → t.name c ≡ 0 → ends_below t n c ≡ []
  below_nameless n c h = rw (eq-eqb (t.name c) 0 h)

  below-some : (n c e : ℕ) (l : List ℕ) → ends_below t n c ≡ e ∷ l → LiveIn t c
  below-some n c e l q z = not_cons (sym (below_nameless n c z) ∙ q)

  below_mem : (n c e : ℕ) → Memᴰ e (ends_below t n c) → LiveIn t c × Memᴰ e (ends t n c)
  below_mem n c e m = go (eqb (t.name c) 0) refl m
    where
      go : (b : Bool) → eqb (t.name c) 0 ≡ b → Memᴰ e (cond b [] (ends t n c)) → LiveIn t c × Memᴰ e (ends t n c)
      go true q h = absurd (Memᴰ.not-nil h)
      go false q h = (eqb-false (t.name c) 0 q, h)

  mem_below : (n c e : ℕ) → LiveIn t c → Memᴰ e (ends t n c) → Memᴰ e (ends_below t n c)
  mem_below n c e h m = subst (Memᴰ e) (sym (below-live n c h)) m

  -- each of them is the end of a chain, and each end of a chain is one of them
  pub ends-sound : (n a e : ℕ) → Memᴰ e (ends t n a) → (ps : List ℕ) × (length ps ≡ n) × Chain t ps a e
  unfolding ends Chain
  ends-sound zero a e m = ([], refl, Memᴰ.eq_of_singleton m)
  ends-sound (suc n) a e m =
      let r = ranged_mem (ends_below t n) (t.first a) (t.count a) e m in
      let p = below_mem n (child t a r.0) e r.2 in
      let q = ends-sound n (child t a r.0) e p.1 in
      (r.0 ∷ q.0, ap suc q.1, (r.1, (p.0, q.2)))

  pub ends-complete : (ps : List ℕ) (n a e : ℕ) → length ps ≡ n → Chain t ps a e → Memᴰ e (ends t n a)
  unfolding ends Chain
  ends-complete [] zero a e q c = Memᴰ.head c
  ends-complete [] (suc n) a e q c = absurd (omega arith)
  ends-complete (j ∷ ps) zero a e q c = absurd (omega arith)
  ends-complete (j ∷ ps) (suc n) a e q c =
      mem_ranged (ends_below t n) (t.first a) (t.count a) e j c.0
      (mem_below n (child t a j) e c.1.0 (ends-complete ps n (child t a j) e (omega arith) c.1.1))

  -- there are none exactly where no chain is so long
  none_shallow : (n a : ℕ) → ends t n a ≡ [] → Deep t n a → ⊥
  none_shallow n a q d = Memᴰ.not-nil (subst (Memᴰ d.1) q (ends-complete d.0 n a d.1 d.2 d.3))

  shallow_none : (n a : ℕ) → (Deep t n a → ⊥) → ends t n a ≡ []
  shallow_none n a f = go (ends t n a) refl
    where
      go : (l : List ℕ) → ends t n a ≡ l → ends t n a ≡ []
      go [] q = q
      go (e ∷ l) q = let s = ends-sound n a e (subst (Memᴰ e) (sym q) (Memᴰ.head refl)) in absurd (f (s.0, e, s.1, s.2))

  pub ends-none : (n a : ℕ) → ends t n a ≡ [] ↔ (Deep t n a → ⊥)
  ends-none n a = (none_shallow n a, shallow_none n a)

  -- the first of them is the end of the first chain
  pub ends-first : (n a e : ℕ) (l : List ℕ) → ends t n a ≡ e ∷ l → FirstDeep t n a e
  unfolding ends Chain Before
  ends-first zero a e l q = record { places = []; long = refl; chain = cc; first = only }
    where
      only : (qs : List ℕ) (d : ℕ) → length qs ≡ 0 → Chain t qs a d → Before qs [] → ⊥
      only [] d h c b = b
      only (k ∷ qs) d h c b = b
  ends-first (suc n) a e l q =
      let r = ranged-first (ends_below t n) (t.first a) (t.count a) e l q in
      let w = below-some n (child t a r.0) e r.2.0.0 r.2.0.1 in
      let s = ends-first n (child t a r.0) e r.2.0.0 (sym (below-live n (child t a r.0) w) ∙ r.2.0.1) in
      record { places = r.0 ∷ s.places; long = ap suc s.long; chain = (r.1, (w, s.chain)); first = first r.0 s.places s.first r.2.1 }
    where
      first : (j : ℕ) (ps : List ℕ) → ((qs : List ℕ) (d : ℕ) → length qs ≡ n → Chain t qs (child t a j) d → Before qs ps → ⊥)
          → ((i : ℕ) → i < j → ends_below t n (child t a i) ≡ []) → (qs : List ℕ) (d : ℕ) → length qs ≡ suc n → Chain t qs a d → Before qs (j ∷ ps) → ⊥
      first j ps ih f [] d h c b = absurd (omega arith)
      first j ps ih f (k ∷ qs) d h c b =
          ⊎_elim
          (λ lt. none_shallow n (child t a k) (sym (below-live n (child t a k) c.1.0) ∙ f k lt) (qs, d, omega arith, c.1.1))
          (λ eq. ih qs d (omega arith) (subst (λ (i : ℕ). Chain t qs (child t a i) d) eq.0 c.1.1) eq.1)
          b
