-- The nodes that name indices lead to, child by child, as the code goes through a child range. Assumes nothing.
use mathlib.Core.Path.{◌≡◌, refl, ap, ◌∙◌}
use mathlib.Core.Bool.{cond}
use mathlib.Core.List.{List, [], ◌∷◌, ◌++◌, append-nil}
use Prim.Native.Nat.{ℕ, zero, suc, ◌+◌, ◌-◌, ◌≤◌, ◌<◌}
use native.Mathlib.Nat.{not-suc-le-zero}
use native.Mathlib.Omega.{arith}
use borrow.Author.Tests.{eq-eqb, ne_eqb}
use lib.Dec.{eqb}
use lib.ListN.{length, get_or, take, drop, length-append}
use lib.Seq.{take-length}
use Rattle.layout.specs.declared.Edition.{Edition}
use Rattle.tree.specs.Chain.{ranged}
use Rattle.tree.specs.File.{tree_of}
use Rattle.tree.proofs.Ranged.{ranged_more}
use Rattle.path.specs.inner.Indices.{matches_at}

-- a part of a range is no longer than the whole
ranged_le : (f : ℕ → List ℕ) (a n m : ℕ) → n ≤ m → length (ranged f a n) ≤ length (ranged f a m)
unfolding ranged
ranged_le f a zero m h = omega arith
ranged_le f a (suc n) zero h = absurd (not-suc-le-zero h)
ranged_le f a (suc n) (suc m) h = simp length-append (omega (arith, ranged_le f (a + 1) n m (omega arith)))

-- indices by the first and those behind it
pub indices-split : (is : List ℕ) {n : ℕ} → 1 ≤ length is → n ≡ get_or is 0 0 → is ≡ n ∷ take (length is - 1) (drop 1 is)
indices-split [] h q = absurd (not-suc-le-zero h)
indices-split (i ∷ is) h q =
    let e : length (i ∷ is) - 1 ≡ length is = omega arith in
    rw (q, e, take-length is)

-- no index left: the node itself
pub at_end : (ed : Edition) (b is : List ℕ) (a : ℕ) → length is < 1 → matches_at (tree_of ed b) is a ≡ a ∷ []
unfolding matches_at
at_end ed b [] a h = refl
at_end ed b (i ∷ is) a h = absurd (omega arith)

module _ (ed : Edition) (b : List ℕ) (i : ℕ) (is : List ℕ) where
  -- the nodes below the child c, where it has the first index
  abbrev under : ℕ → List ℕ
  under c = matches_at (tree_of ed b) is c

  -- the nodes below the first j children
  abbrev pub passed : ℕ → ℕ → List ℕ
  passed first j = ranged (λ c. cond (eqb ((tree_of ed b).name c) i) (under c) []) first j

  -- a child that has the index, and one that has not
  module _ (first j : ℕ) where
    pub range_hit : (tree_of ed b).name (first + j) ≡ i → passed first (j + 1) ≡ passed first j ++ under (first + j)
    range_hit e =
        ranged_more _ first j ∙ ap (λ (l : List ℕ). passed first j ++ l) (rw (eq-eqb ((tree_of ed b).name (first + j)) i e))

    pub range_skip : ((tree_of ed b).name (first + j) ≡ i → ⊥) → passed first (j + 1) ≡ passed first j
    range_skip f =
        ranged_more _ first j ∙ ap (λ (l : List ℕ). passed first j ++ l) (rw (ne_eqb ((tree_of ed b).name (first + j)) i f))
        ∙ append-nil _

  -- the whole child range
  module _ {wanted : List ℕ} (s : wanted ≡ i ∷ is) (a : ℕ) {first m : ℕ} (p : first ≡ (tree_of ed b).first a) (q : m ≡ (tree_of ed b).count a) where
    pub whole : (j : ℕ) → j ≡ m → matches_at (tree_of ed b) wanted a ≡ passed first j
    unfolding matches_at
    whole j e = ap (λ (is : List ℕ). matches_at (tree_of ed b) is a) s ∙ rw (e ∙ q, p)

    -- what a child adds stays within the whole
    pub hit_le : (j : ℕ) → j < m → (tree_of ed b).name (first + j) ≡ i
        → length (passed first j) + length (under (first + j)) ≤ length (matches_at (tree_of ed b) wanted a)
    hit_le j l e =
        let s = ap length (range_hit first j e) ∙ length-append (passed first j) (under (first + j)) in
        let w = ap length (whole m refl) in
        let r : length (passed first (j + 1)) ≤ length (passed first m) = ranged_le _ first (j + 1) m (omega arith) in
        omega arith
