-- The matches of a path are so few that counting them never overflows: they are distinct used nodes. Assumes nothing.
use mathlib.Core.Path.{◌≡◌, refl}
use mathlib.Core.List.{List, [], ◌∷◌, Memᴰ}
use Prim.Native.Nat.{ℕ, ◌^◌, ◌≤◌, ◌<◌}
use native.Mathlib.Omega.{arith}
use lib.ListN.{length}
use Rattle.laws.proofs.Pigeon.{Once, once-none, once_more, pigeon}
use Rattle.layout.specs.declared.Edition.{Edition}
use Rattle.keys.specs.Names.{name_text}
use Rattle.tree.specs.Chain.{Pairs}
use Rattle.tree.specs.File.{Used, tree_of}
use Rattle.tree.proofs.Unique.{chain-within}
use Rattle.accept.specs.Rules.{FileRules}
use Rattle.path.specs.Names.{names_of}
use Rattle.path.specs.Listing.{path_matches}
use Rattle.path.proofs.Found.{bearing_chain}
use Rattle.path.proofs.Listed.{parents, listed}

pairs_once : (l : List ℕ) → Pairs (λ a b. a ≡ b → ⊥) l → Once l
unfolding Pairs
pairs_once [] p = once-none
pairs_once (x ∷ l) p = once_more x l (λ h. p.0 x h refl) (pairs_once l p.1)

module _ (ed : Edition) (b : List ℕ) (r : FileRules ed b) where
  -- a used node's number has 32 bits
  used_low : (a : ℕ) → Used ed b a → a < 2 ^ 32
  used_low a u = omega (arith, u.seg_in, r.laid.nodes.few)

  pub match_low : (path : List ℕ) (e : ℕ) → Memᴰ e (path_matches ed b path) → e < 2 ^ 32
  match_low path e m =
      let q = (listed ed b r path).sound e m in
      used_low e (chain-within (tree_of ed b) (Used ed b) (parents ed b r) q.0 0 e r.nodes.root (bearing_chain (tree_of ed b) (name_text ed b) (names_of path) q.0 0 e q.1))

  pub few : (path : List ℕ) → length (path_matches ed b path) ≤ 2 ^ 32
  few path = pigeon (2 ^ 32) (path_matches ed b path) (pairs_once _ (listed ed b r path).once) (match_low path)
