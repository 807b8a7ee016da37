-- The cut of the outline at 63 levels below the root loses nothing: no chain is longer. Assumes nothing.
use mathlib.Core.Path.{◌≡◌, refl, ap}
use mathlib.Core.Bool.{Bool, true, false, cond}
use mathlib.Core.List.{List, [], ◌++◌, append-nil}
use Prim.Native.Nat.{ℕ, zero, suc, ◌+◌, ◌≤◌, ◌<◌}
use native.Mathlib.Nat.{add-zero}
use native.Mathlib.Omega.{arith}
use borrow.Author.Tests.{eqb-false}
use lib.Dec.{eqb}
use Rattle.layout.specs.declared.Edition.{Edition}
use Rattle.tree.specs.Chain.{LiveIn, child, ranged, deepest_level}
use Rattle.tree.specs.File.{node_of, tree_of}
use Rattle.tree.specs.Rules.{Deep}
use Rattle.accept.specs.Rules.{FileRules}
use Rattle.outline.specs.Outline.{line, shown, block, outline_of}
use Rattle.tree.proofs.Depths.{none_deep, deeper}

-- where each of n elements adds the same, all of them do
ranged-same : (f g : ℕ → List ℕ) (a n : ℕ) → ((j : ℕ) → j < n → f (a + j) ≡ g (a + j)) → ranged f a n ≡ ranged g a n
unfolding ranged
ranged-same f g a zero h = refl
ranged-same f g a (suc n) h =
    let p : f a ≡ g a = rw add-zero at (h 0 (omega arith)) in
    let q = ranged-same f g (a + 1) n (λ j l. let e : a + 1 + j ≡ a + suc j = omega arith in rw e (h (suc j) (omega arith))) in
    cc

ranged_nil : (a n : ℕ) → ranged (λ c. []) a n ≡ []
unfolding ranged
ranged_nil a zero = refl
ranged_nil a (suc n) = ranged_nil (a + 1) n

module _ (ed : Edition) (b : List ℕ) where
  -- two ways to write a child agree where they do for a live one
  shown-same : (f g : ℕ → List ℕ) (c : ℕ) → (LiveIn (tree_of ed b) c → f c ≡ g c) → shown ed b f c ≡ shown ed b g c
  unfolding shown
  shown-same f g c h = go (eqb ((tree_of ed b).name c) 0) refl
    where
      go : (x : Bool) → eqb ((tree_of ed b).name c) 0 ≡ x → cond x [] (f c) ≡ cond x [] (g c)
      go true q = refl
      go false q = h (eqb-false ((tree_of ed b).name c) 0 q)

  shown-none : (f : ℕ → List ℕ) (c : ℕ) → (LiveIn (tree_of ed b) c → ⊥) → shown ed b f c ≡ []
  unfolding shown
  shown-none f c h = go (eqb ((tree_of ed b).name c) 0) refl
    where
      go : (x : Bool) → eqb ((tree_of ed b).name c) 0 ≡ x → cond x [] (f c) ≡ []
      go true q = refl
      go false q = absurd (h (eqb-false ((tree_of ed b).name c) 0 q))

  -- below a node from which no chain has more than n places, n levels are all there are
  enough : (n m level a : ℕ) → n ≤ m → (Deep (tree_of ed b) (suc n) a → ⊥) → block ed b m level a ≡ block ed b n level a
  unfolding block
  enough zero zero level a l f = refl
  enough zero (suc m) level a l f =
      rw (
        ranged-same (shown ed b (block ed b m (level + 1))) (λ c. []) ((tree_of ed b).first a) ((tree_of ed b).count a)
            (λ j h. shown-none _ _ (λ k. f (deeper (tree_of ed b) 0 a j h k (none_deep (tree_of ed b) _)))),
        ranged_nil,
      ) (append-nil (line ed b level (node_of ed b a)))
  enough (suc n) zero level a l f = absurd (omega arith)
  enough (suc n) (suc m) level a l f =
      ap (λ (s : List ℕ). line ed b level (node_of ed b a) ++ s)
      (ranged-same (shown ed b (block ed b m (level + 1))) (shown ed b (block ed b n (level + 1))) ((tree_of ed b).first a) ((tree_of ed b).count a)
      (λ j h. shown-same _ _ _ (λ k. enough n m (level + 1) (child (tree_of ed b) a j) (omega arith) (λ d. f (deeper (tree_of ed b) (suc n) a j h k d)))))

pub all_levels : (ed : Edition) (b : List ℕ) → FileRules ed b → (n : ℕ) → block ed b (deepest_level + n) 0 0 ≡ outline_of ed b
unfolding outline_of
all_levels ed b r n = enough ed b deepest_level (deepest_level + n) 0 0 (omega arith) r.depth
