-- No node has two chains: any two from the root that end at the same node are the same chain. Assumes nothing.
use mathlib.Core.Path.{◌≡◌, refl, sym, ap, ◌∙◌}
use mathlib.Core.Logic.{⊎_elim}
use mathlib.Core.List.{List, [], ◌∷◌}
use Prim.Native.Nat.{ℕ, ◌<◌}
use native.Mathlib.Omega.{arith}
use lib.ListN.{length}
use Rattle.laws.proofs.Order.{le_or_lt}
use Rattle.region.specs.Region.{Laid}
use Rattle.layout.specs.Edition.{node_size}
use Rattle.layout.specs.Layout.{nodes_at}
use Rattle.layout.specs.declared.Edition.{Edition}
use Rattle.nodes.specs.Rules.{NodesRules}
use Rattle.tree.specs.Chain.{Tree, child, Chain}
use Rattle.tree.specs.File.{Used, tree_of}
use Rattle.tree.specs.Rules.{RangeRule}
use Rattle.tree.proofs.Addresses.{used-child}

-- Among the nodes of P, the root is one; each element of a node's range is one and not the root, and is in no other node's range.
pub record OneParent (t : Tree) (P : ℕ → Type 0) : Type 0 where
  pub root : P 0
  pub within : (a j : ℕ) → P a → j < t.count a → P (child t a j)
  pub rootless : (a j : ℕ) → P a → j < t.count a → child t a j ≡ 0 → ⊥
  pub one : (a c j k : ℕ) → P a → P c → j < t.count a → k < t.count c → child t a j ≡ child t c k → a ≡ c

module _ (t : Tree) (P : ℕ → Type 0) (u : OneParent t P) where
  -- the end of a chain from a node of P is one
  pub chain-within : (ps : List ℕ) (a e : ℕ) → P a → Chain t ps a e → P e
  unfolding Chain
  chain-within [] a e h g = rw g h
  chain-within (j ∷ ps) a e h g = chain-within ps (child t a j) e (u.within a j h g.0) g.1.1

  -- two chains of as many places that end at one node start at one node and go by the same places
  pub same-chain : (ps qs : List ℕ) (a c e : ℕ) → length ps ≡ length qs → P a → P c → Chain t ps a e → Chain t qs c e → (a ≡ c) × (ps ≡ qs)
  unfolding Chain
  same-chain [] [] a c e l h m g f = (sym g ∙ f, refl)
  same-chain [] (k ∷ qs) a c e l h m g f = absurd (omega arith)
  same-chain (j ∷ ps) [] a c e l h m g f = absurd (omega arith)
  same-chain (j ∷ ps) (k ∷ qs) a c e l h m g f =
      let r = same-chain ps qs (child t a j) (child t c k) e (omega arith) (u.within a j h g.0) (u.within c k m f.0) g.1.1 f.1.1 in
      let p : a ≡ c = u.one a c j k h m g.0 f.0 r.0 in
      let s = ap t.first p in
      let q : j ≡ k = omega (arith, r.0) in
      (p, (let z = r.1 in cc))

  -- a chain to where a chain from the root ends is no longer than it
  no_longer : (ps qs : List ℕ) (a e : ℕ) → length qs < length ps → P a → Chain t ps a e → Chain t qs 0 e → ⊥
  unfolding Chain
  no_longer [] qs a e l h g f = omega arith
  no_longer (j ∷ ps) qs a e l h g f =
      let w = u.within a j h g.0 in
      ⊎_elim
      (λ le. u.rootless a j h g.0 (same-chain ps qs (child t a j) 0 e (omega arith) w u.root g.1.1 f).0)
      (λ lt. no_longer ps qs (child t a j) e lt w g.1.1 f)
      (le_or_lt (length ps) (length qs))

  pub one-chain : (ps qs : List ℕ) (e : ℕ) → Chain t ps 0 e → Chain t qs 0 e → ps ≡ qs
  one-chain ps qs e g f =
      ⊎_elim
      (λ le. ⊎_elim
      (λ ge. (same-chain ps qs 0 0 e (omega arith) u.root u.root g f).1)
      (λ lt. absurd (no_longer qs ps 0 e lt u.root f g))
      (le_or_lt (length qs) (length ps)))
      (λ gt. absurd (no_longer ps qs 0 e gt u.root g f))
      (le_or_lt (length ps) (length qs))

-- ---- of a file that obeys 16 to 19, 21 and 23

module _ (ed : Edition) (b : List ℕ) (g : Laid (node_size ed) b (nodes_at ed b)) (r : NodesRules ed b) (f : (a : ℕ) → Used ed b a → RangeRule ed b a) where
  pub one_parent : OneParent (tree_of ed b) (Used ed b)
  one_parent = record {
    root = r.root;
    within = λ a j h l. used-child ed b g r a h j l;
    rootless = λ a j h l. (f a h).rootless j l;
    one = λ a c j k h m l d q.
        ⊎_elim
        (λ le. ⊎_elim (λ ge. omega arith) (λ lt. absurd ((f c m).fresh a lt h k d j l (sym q))) (le_or_lt c a))
        (λ gt. absurd ((f a h).fresh c gt m j l k d q))
        (le_or_lt a c);
  }
