-- Refusals 20, 21 and 22 one after the other, and what each leaves in the workspace. Assumes nothing.
use Prim.Native.Nat.{ℕ, ◌+◌, ◌≤◌, ◌<◌}
use native.Mathlib.Omega.{arith}
use mathlib.Core.Path.{◌≡◌, refl, sym, ap, ◌∙◌}
use mathlib.Core.List.{List}
use lib.ListN.{length, drop}
use Rattle.verdict.specs.Checks.{first_fault}
use Rattle.verdict.specs.Verdict.{Verdict, Accepted, Refused}
use Rattle.verdict.proofs.Laws.{pass, stop, fault_append, fault_keep}
use Rattle.region.specs.Region.{Laid, start_of, place_of}
use Rattle.layout.specs.Edition.{node_size}
use Rattle.layout.specs.Layout.{nodes_at}
use Rattle.layout.specs.declared.Edition.{Edition}
use Rattle.nodes.specs.Node.{node_at}
use Rattle.std.specs.Prelude.{Option, Some, None}
use Rattle.tree.specs.Chain.{ends, most_levels}
use Rattle.tree.specs.Marks.{cleared}
use Rattle.tree.specs.File.{node_of, tree_of, used_node_count}
use Rattle.tree.specs.Order.{room_checks, all_range_checks, depth_checks}
use Rattle.tree.specs.Outcome.{tree_checks, workspace_after}
use Rattle.tree.specs.inner.Marking.{first_place}
use Rattle.tree.proofs.Deepest.{depth_clean, depth_fault}
use Rattle.tree.proofs.Marking.{marked-rest}
use Rattle.tree.proofs.Cleared.{cleared-same}

-- the root stands behind the node segment count and the first segment's counts
pub root-place : (ed : Edition) (b : List ℕ) (r p : ℕ) → p ≡ r + 12 → r ≡ nodes_at ed b → p ≡ node_of ed b 0
unfolding node_of node_at place_of start_of
root-place ed b r p e q = omega arith

-- what the three answer, and what they leave
module _ (ed : Edition) (b ws : List ℕ) where
  abbrev Told : Verdict → List ℕ → Type 0
  Told v w = (v ≡ first_fault (tree_checks ed b (length ws))) × (w ≡ workspace_after ed b ws (first_fault (tree_checks ed b (length ws))))

  told : (v : Verdict) (w : List ℕ) → first_fault (tree_checks ed b (length ws)) ≡ v → w ≡ workspace_after ed b ws v → Told v w
  told v w q h = (sym q, h ∙ ap (workspace_after ed b ws) (sym q))

  -- 20: the workspace is too short, and stays
  pub told-room : (used : ℕ) → used ≡ used_node_count ed b → length ws < used → Told (Refused 20 used) ws
  unfolding tree_checks room_checks workspace_after
  told-room used q h = told (Refused 20 used) ws (rw q (stop _ _ _ _ _ (λ l. omega arith))) refl

  -- m is what 21 answers, and w what it leaves
  module _ (h : used_node_count ed b ≤ length ws) (m : Verdict) (w : List ℕ) (a : m ≡ first_fault (all_range_checks ed b))
      (k : w ≡ workspace_after ed b ws (first_fault (all_range_checks ed b))) where
    left_is : (v : Verdict) → m ≡ v → w ≡ workspace_after ed b ws v
    left_is v q = k ∙ ap (workspace_after ed b ws) (sym a ∙ q)

    pub told-range : {n p : ℕ} → m ≡ Refused n p → Told (Refused n p) w
    unfolding tree_checks room_checks
    told-range q = told _ w (pass _ _ _ _ _ h ∙ fault_keep (all_range_checks ed b) (depth_checks ed b) (sym a ∙ q)) (left_is _ q)

    -- 22; f is the first place found
    module _ (q : m ≡ Accepted) (f : Option ℕ) (d : f ≡ first_place ed b (ends (tree_of ed b) most_levels 0)) where
      depth_left : first_fault (tree_checks ed b (length ws)) ≡ first_fault (depth_checks ed b)
      unfolding tree_checks room_checks
      depth_left = pass _ _ _ _ _ h ∙ fault_append (all_range_checks ed b) (depth_checks ed b) (sym a ∙ q)

      pub told_deep : {p : ℕ} → Laid (node_size ed) b (nodes_at ed b) → (v : List ℕ) → f ≡ Some p → v ≡ cleared ed b w → Told (Refused 22 p) v
      unfolding workspace_after
      told_deep g v e s =
          told _ v (depth_left ∙ depth_fault ed b (sym d ∙ e))
          (s ∙ cleared-same ed b w ws (ap (drop (used_node_count ed b)) (left_is Accepted q) ∙ marked-rest ed b g ws))

      pub told_flat : f ≡ None → Told Accepted w
      told_flat e = told _ w (depth_left ∙ depth_clean ed b (sym d ∙ e)) (left_is Accepted q)
