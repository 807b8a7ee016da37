-- Refusals 20 to 22 find nothing exactly when their rules hold. Assumes nothing.
use Prim.Native.Nat.{ℕ, ◌/◌, ◌%◌}
use native.Mathlib.Omega.{arith}
use mathlib.Core.Path.{◌≡◌, ◌∙◌}
use mathlib.Core.Logic.{◌↔◌}
use mathlib.Core.List.{List}
use Rattle.verdict.specs.Checks.{first_fault}
use Rattle.verdict.specs.Verdict.{Accepted}
use Rattle.verdict.proofs.Laws.{Clean, pass, clean_inv, append_inv, fault_append, fault_none, each_inv, each_clean}
use Rattle.region.specs.Region.{Laid}
use Rattle.layout.specs.Edition.{node_size}
use Rattle.layout.specs.Layout.{nodes_at}
use Rattle.layout.specs.declared.Edition.{Edition}
use Rattle.tree.specs.File.{address, Used}
use Rattle.tree.specs.Rules.{RangeRule, TreeRules}
use Rattle.tree.specs.Order.{room_checks, range_checks, segment_range_checks, all_range_checks, depth_checks}
use Rattle.tree.specs.Outcome.{tree_checks}
use Rattle.tree.proofs.Addresses.{address-of, used-of}

module _ (ed : Edition) (b : List ℕ) (g : Laid (node_size ed) b (nodes_at ed b)) where
  pub ranges_inv : Clean (all_range_checks ed b) → (a : ℕ) → Used ed b a → RangeRule ed b a
  unfolding all_range_checks segment_range_checks range_checks
  ranges_inv e a u =
      rw address-of at
      (clean_inv _ _ _ _ _
      (each_inv _ _ _ (each_inv _ _ _ e (a / 65536) (omega arith) (omega (arith, u.seg_in))) (a % 65536) (omega arith) (omega (arith, u.el_in)))
      ).0

  pub ranges_clean : ((a : ℕ) → Used ed b a → RangeRule ed b a) → Clean (all_range_checks ed b)
  unfolding all_range_checks segment_range_checks range_checks
  ranges_clean f =
      each_clean _ _ _
      (λ seg l h. each_clean _ _ _
      (λ el m k. pass _ _ _ _ _ (f (address seg el) (used-of ed b g seg el (record { seg_in = omega arith; el_in = omega arith }))) ∙ fault_none))

  module _ (bytes : ℕ) where
    accepted-tree : Clean (tree_checks ed b bytes) → TreeRules ed b bytes
    unfolding tree_checks room_checks depth_checks
    accepted-tree e =
        let x = clean_inv _ _ _ _ _ e in
        let y = append_inv (all_range_checks ed b) _ x.1 in
        record { room = x.0; ranges = ranges_inv y.0; depth = (clean_inv _ _ _ _ _ y.1).0 }

    tree-accepted : TreeRules ed b bytes → Clean (tree_checks ed b bytes)
    unfolding tree_checks room_checks depth_checks
    tree-accepted r = pass _ _ _ _ _ r.room ∙ fault_append _ _ (ranges_clean r.ranges) ∙ pass _ _ _ _ _ r.depth ∙ fault_none

    pub tree_iff : first_fault (tree_checks ed b bytes) ≡ Accepted ↔ TreeRules ed b bytes
    tree_iff = (accepted-tree, tree-accepted)
