-- Demand 3 of an accepted file: `path_matches` lists the matches of a path, each once, in document order. Assumes nothing.
use mathlib.Core.Path.{◌≡◌, subst}
use mathlib.Core.List.{List}
use Prim.Native.Nat.{ℕ}
use Rattle.layout.specs.declared.Edition.{Edition}
use Rattle.keys.specs.Names.{name_text}
use Rattle.tree.specs.Chain.{Tree, Chain, Before}
use Rattle.tree.specs.File.{Used, tree_of}
use Rattle.tree.proofs.Unique.{OneParent, one-chain, one_parent}
use Rattle.accept.specs.Rules.{FileRules}
use Rattle.path.specs.Names.{names_of}
use Rattle.path.specs.Matches.{DocumentBefore, Listed}
use Rattle.path.specs.Listing.{matches, path_matches}
use Rattle.path.proofs.Found.{Follows, pairs_mono, before_irrefl, bearing_chain, sound, complete, ordered}

-- in a tree where no node has two chains from the root
module _ (t : Tree) (text : ℕ → List ℕ) (xs : List (List ℕ)) (u : (ps qs : List ℕ) (e : ℕ) → Chain t ps 0 e → Chain t qs 0 e → ps ≡ qs) where
  document : (a b : ℕ) → Follows t text xs 0 a b → DocumentBefore t a b
  document a b f = (f.0, f.1, bearing_chain t text xs f.0 0 a f.2, bearing_chain t text xs f.1 0 b f.3, f.4)

  distinct : (a b : ℕ) → Follows t text xs 0 a b → a ≡ b → ⊥
  distinct a b f q =
      let g = subst (Chain t f.0 0) q (bearing_chain t text xs f.0 0 a f.2) in
      let h = bearing_chain t text xs f.1 0 b f.3 in
      before_irrefl f.1 (subst (λ (ps : List ℕ). Before ps f.1) (u f.0 f.1 b g h) f.4)

  pub listed_in : Listed t text xs (matches t text xs 0)
  listed_in = record {
    sound = sound t text xs 0;
    complete = λ e m. complete t text xs m.0 0 e m.1;
    once = pairs_mono _ _ _ distinct (ordered t text xs 0);
    ordered = pairs_mono _ _ _ document (ordered t text xs 0);
  }

module _ (ed : Edition) (b : List ℕ) (r : FileRules ed b) where
  -- the used nodes have one parent each
  pub parents : OneParent (tree_of ed b) (Used ed b)
  parents = one_parent ed b r.laid.nodes r.nodes r.range

  pub listed : (path : List ℕ) → Listed (tree_of ed b) (name_text ed b) (names_of path) (path_matches ed b path)
  unfolding path_matches
  listed path = listed_in (tree_of ed b) (name_text ed b) (names_of path) (one-chain (tree_of ed b) (Used ed b) parents)
