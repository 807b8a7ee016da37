-- The scan over all nodes: whether there is a root, and what the loops over segments and nodes have left. Assumes nothing.
use Prim.Native.Nat.{ℕ, ◌+◌, ◌*◌, ◌<◌}
use native.Mathlib.Omega.{arith}
use mathlib.Core.Path.{◌≡◌, ap, sym, ◌∙◌}
use mathlib.Core.List.{List}
use Rattle.le.specs.Le.{u32_at}
use Rattle.verdict.specs.Checks.{first_fault}
use Rattle.verdict.specs.Verdict.{Verdict, Refused}
use Rattle.verdict.proofs.Laws.{pass, stop}
use Rattle.region.specs.declared.Region.{Region}
use Rattle.region.specs.Region.{Resolves, count_of, start_of, used_of}
use Rattle.region.specs.inner.Samples.{Mapped}
use Rattle.region.proofs.Samples.{used-at, place_at}
use Rattle.layout.specs.Edition.{node_size}
use Rattle.layout.specs.Layout.{nodes_at}
use Rattle.layout.specs.declared.Edition.{Edition}
use Rattle.nodes.specs.Node.{node_at}
use Rattle.nodes.specs.Rules.{RootUsed}
use Rattle.nodes.specs.Order.{node_checks, segment_node_checks, all_node_checks}
use Rattle.nodes.proofs.Rows.{rows_left, places_left, left_start}

-- from segment seg on
abbrev pub segments_left : Edition → List ℕ → ℕ → Verdict
segments_left ed b seg = rows_left (node_checks ed b) (used_of (node_size ed) b (nodes_at ed b)) (count_of b (nodes_at ed b)) seg

-- from node seg:el on
abbrev pub nodes_left : Edition → List ℕ → ℕ → ℕ → Verdict
nodes_left ed b seg el = places_left (node_checks ed b) (used_of (node_size ed) b (nodes_at ed b)) (count_of b (nodes_at ed b)) seg el

module _ (ed : Edition) (b : List ℕ) (g : Region) (w : Mapped (node_size ed) b (nodes_at ed b) g) where
  none-used : (RootUsed ed b → ⊥) → Refused 16 g.at ≡ first_fault (all_node_checks ed b)
  unfolding all_node_checks
  none-used f = ap (Refused 16) w.at_is ∙ sym (stop _ _ _ _ _ f)

  pub no_segment : g.count ≡ 0 → Refused 16 g.at ≡ first_fault (all_node_checks ed b)
  no_segment z = none-used (λ h. omega (arith, h.seg_in, w.count_is))

  pub first-at : (p : ℕ) → p ≡ g.at + 4 → p ≡ start_of (node_size ed) b (nodes_at ed b) 0
  unfolding start_of
  first-at p e = omega (arith, w.at_is)

  module _ (p u : ℕ) (s : p ≡ g.at + 4) (e : u ≡ u32_at b (p + 4)) where
    first-used : u ≡ used_of (node_size ed) b (nodes_at ed b) 0
    first-used = used-at (node_size ed) b (nodes_at ed b) 0 p u (first-at p s) e

    pub no_node : u ≡ 0 → Refused 16 g.at ≡ first_fault (all_node_checks ed b)
    no_node z = none-used (λ h. omega (arith, h.el_in, first-used))

    pub nodes_start : (g.count ≡ 0 → ⊥) → (u ≡ 0 → ⊥) → first_fault (all_node_checks ed b) ≡ segments_left ed b 0
    unfolding all_node_checks segment_node_checks
    nodes_start d f =
        pass _ _ _ _ _ (record { seg_in = omega (arith, d, w.count_is); el_in = omega (arith, f, first-used) }) ∙ left_start _ _ _

  -- the nodes of the segment that starts at p
  module _ (seg p : ℕ) (s : seg < g.count) (q : p ≡ start_of (node_size ed) b (nodes_at ed b) seg) where
    pub node_in : (u el : ℕ) → u ≡ u32_at b (p + 4) → el < u → Resolves (node_size ed) b (nodes_at ed b) seg el
    node_in u el e l = record { seg_in = omega (arith, w.count_is); el_in = omega (arith, used-at (node_size ed) b (nodes_at ed b) seg p u q e) }

-- node el of the segment that starts at p
pub node-place : (ed : Edition) (b : List ℕ) (seg p el : ℕ) → p ≡ start_of (node_size ed) b (nodes_at ed b) seg → p + 8 + el * node_size ed ≡ node_at ed b seg el
unfolding node_at
node-place ed b = place_at (node_size ed) b (nodes_at ed b)
