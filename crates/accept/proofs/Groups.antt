-- The groups of checks one after the other: what is left of the verdict after each, and the ways out. Assumes nothing.
use Prim.Native.Nat.{ℕ}
use mathlib.Core.Path.{◌≡◌, refl, ap, sym, ◌∙◌}
use mathlib.Core.List.{List, ◌++◌}
use lib.ListN.{length}
use Rattle.verdict.specs.Checks.{Check, first_fault}
use Rattle.verdict.specs.Verdict.{Refused}
use Rattle.verdict.proofs.Laws.{Clean, fault_append, fault_keep}
use Rattle.layout.specs.Layout.{layout_checks, values, names}
use Rattle.layout.specs.inner.View.{Fits}
use Rattle.layout.specs.declared.View.{View}
use Rattle.layout.specs.declared.Edition.{Edition}
use Rattle.layout.proofs.Accepted.{layout_iff}
use Rattle.strings.specs.Order.{string_checks}
use Rattle.keys.specs.Order.{special_checks, all_key_checks}
use Rattle.nodes.specs.Order.{all_node_checks}
use Rattle.tree.specs.Outcome.{tree_checks, workspace_after}
use Rattle.accept.specs.Verdict.{accept_checks, verdict_of}
use Rattle.accept.proofs.Numbers.{Calm, calm_stays, calm_layout}

-- the checks from each group on
abbrev from_nodes : Edition → List ℕ → ℕ → List Check
from_nodes ed b room = all_node_checks ed b ++ tree_checks ed b room

abbrev from_keys : Edition → List ℕ → ℕ → List Check
from_keys ed b room = all_key_checks ed b ++ from_nodes ed b room

abbrev from_special : Edition → List ℕ → ℕ → List Check
from_special ed b room = special_checks ed b ++ from_keys ed b room

abbrev from_names : Edition → List ℕ → ℕ → List Check
from_names ed b room = string_checks (names ed b) ++ from_special ed b room

abbrev from_values : Edition → List ℕ → ℕ → List Check
from_values ed b room = string_checks (values ed b) ++ from_names ed b room

-- the verdict is that of what is left
abbrev pub Left : Edition → List ℕ → ℕ → List Check → Type 0
Left ed b room cs = verdict_of ed b room ≡ first_fault cs

-- the verdict is that refusal, which leaves the workspace as it was
abbrev pub Settled : Edition → List ℕ → List ℕ → ℕ → ℕ → Type 0
Settled ed b ws n p = (verdict_of ed b (length ws) ≡ Refused n p) × (ws ≡ workspace_after ed b ws (verdict_of ed b (length ws)))

module _ (ed : Edition) (b : List ℕ) (room : ℕ) where
  after_layout : Clean (layout_checks ed b) → Left ed b room (from_values ed b room)
  unfolding verdict_of accept_checks
  after_layout e = fault_append (layout_checks ed b) _ e

  next : (xs ys : List Check) → Left ed b room (xs ++ ys) → Clean xs → Left ed b room ys
  next xs ys l e = l ∙ fault_append xs ys e

-- what is left after each group that is clean
module _ (ed : Edition) (b : List ℕ) (v : View) (f : Fits ed b v) (room : ℕ) where
  pub left_values : Left ed b room (from_values ed b room)
  left_values = after_layout ed b room ((layout_iff ed b).1 f.laid)

  module _ (values-clean : Clean (string_checks (values ed b))) where
    pub left_names : Left ed b room (from_names ed b room)
    left_names = next ed b room _ _ left_values values-clean

    module _ (names-clean : Clean (string_checks (names ed b))) where
      pub left_special : Left ed b room (from_special ed b room)
      left_special = next ed b room _ _ left_names names-clean

      module _ (special-clean : Clean (special_checks ed b)) where
        pub left_keys : Left ed b room (from_keys ed b room)
        left_keys = next ed b room _ _ left_special special-clean

        module _ (keys_clean : Clean (all_key_checks ed b)) where
          pub left_nodes : Left ed b room (from_nodes ed b room)
          left_nodes = next ed b room _ _ left_keys keys_clean

          pub left_tree : Clean (all_node_checks ed b) → Left ed b room (tree_checks ed b room)
          left_tree e = next ed b room _ _ left_nodes e

-- so it is where a group refuses
pub settled : (ed : Edition) (b ws : List ℕ) (xs ys : List Check) {n p : ℕ} → Left ed b (length ws) (xs ++ ys) → Calm xs → first_fault xs ≡ Refused n p
    → Settled ed b ws n p
settled ed b ws xs ys {n} {p} l c e =
    let q = l ∙ fault_keep xs ys e in
    (q, sym (ap (workspace_after ed b ws) q ∙ calm_stays ed b ws xs c e))

-- and where the layout does
pub layout_refused : (ed : Edition) (b ws : List ℕ) {n p : ℕ} → first_fault (layout_checks ed b) ≡ Refused n p → Settled ed b ws n p
unfolding verdict_of accept_checks
layout_refused ed b ws e = settled ed b ws (layout_checks ed b) (from_values ed b (length ws)) refl (calm_layout ed b) e
