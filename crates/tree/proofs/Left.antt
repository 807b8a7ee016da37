-- Refusal 21 along the nodes, as what is left of it from a segment or a node on. Assumes nothing.
use Prim.Native.Nat.{ℕ, ◌+◌, ◌<◌}
use mathlib.Core.Path.{◌≡◌, refl, ◌∙◌}
use mathlib.Core.List.{List}
use Rattle.verdict.specs.Checks.{first_fault}
use Rattle.verdict.specs.Verdict.{Verdict, Refused}
use Rattle.verdict.proofs.Laws.{pass, stop, fault_none}
use Rattle.region.specs.Region.{count_of, used_of}
use Rattle.layout.specs.Edition.{node_size}
use Rattle.layout.specs.Layout.{nodes_at}
use Rattle.layout.specs.declared.Edition.{Edition}
use Rattle.nodes.specs.Node.{node_at}
use Rattle.nodes.proofs.Rows as rows
use Rattle.tree.specs.File.{address}
use Rattle.tree.specs.Rules.{RangeRule}
use Rattle.tree.specs.Order.{range_checks, segment_range_checks, all_range_checks}

module _ (ed : Edition) (b : List ℕ) where
  -- from segment seg on
  abbrev pub segments_left : ℕ → Verdict
  segments_left seg = rows.rows_left (range_checks ed b) (used_of (node_size ed) b (nodes_at ed b)) (count_of b (nodes_at ed b)) seg

  -- from node seg:el on
  abbrev pub nodes_left : ℕ → ℕ → Verdict
  nodes_left seg el = rows.places_left (range_checks ed b) (used_of (node_size ed) b (nodes_at ed b)) (count_of b (nodes_at ed b)) seg el

  pub left_start : first_fault (all_range_checks ed b) ≡ segments_left 0
  unfolding all_range_checks segment_range_checks
  left_start = rows.left_start _ _ _

  module _ (seg el : ℕ) (l : el < used_of (node_size ed) b (nodes_at ed b) seg) where
    pub left_more : RangeRule ed b (address seg el) → nodes_left seg el ≡ nodes_left seg (el + 1)
    unfolding range_checks
    left_more h = rows.left_more _ _ _ _ _ l refl (pass _ _ _ _ _ h ∙ fault_none)

    pub left_stop : (RangeRule ed b (address seg el) → ⊥) → nodes_left seg el ≡ Refused 21 (node_at ed b seg el)
    unfolding range_checks
    left_stop f = rows.left_stop _ _ _ _ _ l refl (stop _ _ _ _ _ f)
