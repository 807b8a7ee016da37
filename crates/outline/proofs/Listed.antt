-- The outline is one line for each chain from the root, in document order. Assumes nothing.
use mathlib.Core.Path.{◌≡◌, refl, sym, ap, ◌∙◌}
use mathlib.Core.Bool.{Bool, true, false, cond}
use mathlib.Core.List.{List, [], ◌∷◌, ◌++◌, map, flat_map, append-nil, append_assoc}
use Prim.Native.Nat.{ℕ, zero, suc, ◌+◌}
use native.Mathlib.Nat.{add-zero, zero-add}
use native.Mathlib.Omega.{arith}
use lib.Dec.{eqb}
use lib.ListN.{length}
use Rattle.layout.specs.declared.Edition.{Edition}
use Rattle.tree.specs.Chain.{child, ranged, deepest_level}
use Rattle.tree.specs.File.{node_of, tree_of}
use Rattle.accept.specs.Rules.{FileRules}
use Rattle.outline.specs.Outline.{line, shown, block, outline_of}
use Rattle.outline.specs.Lined.{leads, Lined}
use Rattle.tree.proofs.Depths.{no_longer}
use Rattle.outline.proofs.Chains.{row, chains, through, chain-leads, chains-sound, chains-complete, chains-rising}

-- ---- laws of flat_map

module _ (f : List ℕ → List ℕ) where
  flat_append : (k l : List (List ℕ)) → flat_map f (k ++ l) ≡ flat_map f k ++ flat_map f l
  unfolding flat_map
  flat_append [] l = refl
  flat_append (x ∷ k) l = rw (flat_append k l) (sym (append_assoc (f x) (flat_map f k) (flat_map f l)))

  flat_map_lem : (j : ℕ) (l : List (List ℕ)) → flat_map f (map (◌∷◌ j) l) ≡ flat_map (λ ps. f (j ∷ ps)) l
  unfolding flat_map
  flat_map_lem j [] = refl
  flat_map_lem j (x ∷ l) = ap (λ (s : List ℕ). f (j ∷ x) ++ s) (flat_map_lem j l)

  flat_same : (g : List ℕ → List ℕ) (l : List (List ℕ)) → ((ps : List ℕ) → f ps ≡ g ps) → flat_map f l ≡ flat_map g l
  unfolding flat_map
  flat_same g [] h = refl
  flat_same g (x ∷ l) h = let p = h x in let q = flat_same g l h in cc

  -- of a row it is a range, from any node on
  flat_row : (r : ℕ → List (List ℕ)) (g : ℕ → List ℕ) (a i n : ℕ) → ((j : ℕ) → flat_map f (r j) ≡ g (a + j)) → flat_map f (row r i n) ≡ ranged g (a + i) n
  unfolding flat_map row ranged
  flat_row r g a i zero h = refl
  flat_row r g a i (suc n) h =
      let e : a + (i + 1) ≡ a + i + 1 = omega arith in
      flat_append (r i) (row r (i + 1) n) ∙ rw (h i, flat_row r g a (i + 1) n h, e)

module _ (ed : Edition) (b : List ℕ) where
  -- the line of the chain of places ps, from node a at a level on
  abbrev line_of : ℕ → ℕ → List ℕ → List ℕ
  line_of level a ps = line ed b (level + length ps) (node_of ed b (leads (tree_of ed b) a ps))

  -- those through place j are the child's, where it is live
  flat_through : (n level a j : ℕ)
      → flat_map (line_of (level + 1) (child (tree_of ed b) a j)) (chains (tree_of ed b) n (child (tree_of ed b) a j)) ≡ block ed b n (level + 1) (child (tree_of ed b) a j)
      → flat_map (line_of level a) (through (tree_of ed b) n a j) ≡ shown ed b (block ed b n (level + 1)) (child (tree_of ed b) a j)
  unfolding shown flat_map leads
  flat_through n level a j h = go (eqb ((tree_of ed b).name (child (tree_of ed b) a j)) 0)
    where
      under : (ps : List ℕ) → line_of level a (j ∷ ps) ≡ line_of (level + 1) (child (tree_of ed b) a j) ps
      under ps = let e : level + suc (length ps) ≡ level + 1 + length ps = omega arith in rw e

      go : (x : Bool) → flat_map (line_of level a) (cond x [] (map (◌∷◌ j) (chains (tree_of ed b) n (child (tree_of ed b) a j))))
          ≡ cond x [] (block ed b n (level + 1) (child (tree_of ed b) a j))
      go true = refl
      go false =
          flat_map_lem (line_of level a) j (chains (tree_of ed b) n (child (tree_of ed b) a j))
          ∙ flat_same (λ ps. line_of level a (j ∷ ps)) (line_of (level + 1) (child (tree_of ed b) a j)) (chains (tree_of ed b) n (child (tree_of ed b) a j)) under
          ∙ h

  -- the lines of the chains from a node are its block
  lines-block : (n level a : ℕ) → flat_map (line_of level a) (chains (tree_of ed b) n a) ≡ block ed b n level a
  unfolding block chains flat_map leads
  lines-block zero level a = rw add-zero (append-nil (line ed b level (node_of ed b a)))
  lines-block (suc n) level a =
      let q = flat_row (line_of level a) (through (tree_of ed b) n a) (shown ed b (block ed b n (level + 1))) ((tree_of ed b).first a) 0 ((tree_of ed b).count a)
      (λ j. flat_through n level a j (lines-block n (level + 1) (child (tree_of ed b) a j))) in
      rw (q, add-zero level, add-zero ((tree_of ed b).first a))

module _ (ed : Edition) (b : List ℕ) where
  pub outline_rows : outline_of ed b ≡ flat_map (λ ps. line ed b (length ps) (node_of ed b (leads (tree_of ed b) 0 ps))) (chains (tree_of ed b) deepest_level 0)
  unfolding outline_of
  outline_rows = sym (lines-block ed b deepest_level 0 0) ∙ flat_same _ _ (chains (tree_of ed b) deepest_level 0) (λ ps. rw zero-add)

  pub outline-lines : FileRules ed b → Lined ed b (chains (tree_of ed b) deepest_level 0)
  outline-lines r = record {
    sound = λ ps m. (chains-sound (tree_of ed b) deepest_level 0 ps m).1;
    complete = λ ps e c. (chains-complete (tree_of ed b) deepest_level 0 ps e (no_longer (tree_of ed b) deepest_level 0 ps e r.depth c) c, chain-leads (tree_of ed b) ps 0 e c);
    ordered = chains-rising (tree_of ed b) deepest_level 0;
    lines = outline_rows;
  }
