-- Refusal 21 and its marks, as the code passes the nodes: at a segment, at a node, and at the end. Assumes nothing.
use Prim.Native.Nat.{ℕ, ◌+◌, ◌*◌, ◌≤◌, ◌<◌}
use native.Mathlib.Omega.{arith}
use mathlib.Core.Path.{◌≡◌, refl, sym, ap, subst, ◌∙◌}
use mathlib.Core.Bool.{Bool, true, false}
use mathlib.Core.List.{List}
use lib.ListN.{length, drop}
use Rattle.le.specs.Le.{u32_at}
use Rattle.verdict.specs.Checks.{first_fault}
use Rattle.verdict.specs.Verdict.{Accepted, Refused}
use Rattle.region.specs.Region.{Resolves, Laid, count_of, used_of, start_of}
use Rattle.region.specs.inner.Samples.{Mapped}
use Rattle.region.specs.declared.Region.{Region}
use Rattle.region.proofs.Samples.{segment-fits, start_more, used-at}
use Rattle.layout.specs.Edition.{node_size}
use Rattle.layout.specs.Layout.{nodes_at}
use Rattle.layout.specs.declared.Edition.{Edition}
use Rattle.nodes.specs.Node.{node_at}
use Rattle.nodes.specs.Rules.{NodesRules}
use Rattle.tree.specs.File.{address, node_of, tree_of, used_node_count}
use Rattle.tree.specs.Order.{all_range_checks}
use Rattle.tree.specs.Marks.{cleared}
use Rattle.tree.specs.Outcome.{workspace_after}
use Rattle.tree.specs.inner.Marking.{MarkedOne}
use Rattle.tree.proofs.Addresses.{node-of, small-element, used-of}
use Rattle.nodes.proofs.Rows.{left_none, left_open, left_next}
use Rattle.tree.proofs.Left.{segments_left, nodes_left, left_start, left_more, left_stop}
use Rattle.tree.proofs.Marking.{Marks, marks_start, marks_segment, free-rule, rule-free, marks_node, marks_end, marked-same}
use Rattle.tree.proofs.Cleared.{cleared-rest, cleared-same}

-- the nodes before segment seg are passed, which starts at offset at; ws was the cleared workspace and w is now
pub record AtSegment (ed : Edition) (b ws : List ℕ) (seg at : ℕ) (w : List ℕ) : Type 0 where
  pub low : seg ≤ count_of b (nodes_at ed b)
  pub at_is : at ≡ start_of (node_size ed) b (nodes_at ed b) seg
  pub marks : Marks ed b ws (address seg 0) w
  pub left : first_fault (all_range_checks ed b) ≡ segments_left ed b seg

-- the nodes before node seg:el are passed
pub record AtNode (ed : Edition) (b ws : List ℕ) (seg el : ℕ) (w : List ℕ) : Type 0 where
  pub low : el ≤ used_of (node_size ed) b (nodes_at ed b) seg
  pub marks : Marks ed b ws (address seg el) w
  pub left : first_fault (all_range_checks ed b) ≡ nodes_left ed b seg el

-- segment seg, which starts at offset at, lies in the file
pub record Inside (ed : Edition) (b : List ℕ) (seg at : ℕ) : Type 0 where
  pub seg_in : seg < count_of b (nodes_at ed b)
  pub used : u32_at b (at + 4) ≡ used_of (node_size ed) b (nodes_at ed b) seg
  pub fits : at + 8 + u32_at b at * node_size ed ≤ length b

pub inside : (ed : Edition) (b : List ℕ) {r : Region} → Mapped (node_size ed) b (nodes_at ed b) r → (seg at : ℕ) → seg < r.count → at ≡ start_of (node_size ed) b (nodes_at ed b) seg → Inside ed b seg at
inside ed b m seg at h q = record {
  seg_in = omega (arith, m.count_is);
  used = used-at (node_size ed) b (nodes_at ed b) seg at _ q refl;
  fits = segment-fits (node_size ed) b (nodes_at ed b) m seg at h q;
}

-- ws was the workspace before it was cleared
module _ (ed : Edition) (b ws : List ℕ) where
  pub pass_start : (at r : ℕ) (w : List ℕ) → used_node_count ed b ≤ length ws → at ≡ r + 4 → r ≡ nodes_at ed b → w ≡ cleared ed b ws → AtSegment ed b (cleared ed b ws) 0 at w
  unfolding start_of
  pass_start at r w room e h q = record {
    low = omega arith;
    at_is = omega arith;
    marks = rw q (marks_start ed b ws room);
    left = left_start ed b;
  }

  pub pass_open : (seg at : ℕ) (w : List ℕ) → seg < count_of b (nodes_at ed b) → AtSegment ed b (cleared ed b ws) seg at w → AtNode ed b (cleared ed b ws) seg 0 w
  pass_open seg at w l h = record { low = omega arith; marks = h.marks; left = h.left ∙ left_open _ _ _ seg l }

  module _ (room : used_node_count ed b ≤ length (cleared ed b ws)) (g : Laid (node_size ed) b (nodes_at ed b)) where
    -- the next segment
    pub pass_next : (seg el at next : ℕ) (v w : List ℕ) → next ≡ at + 8 + u32_at b at * node_size ed → seg < count_of b (nodes_at ed b) → used_of (node_size ed) b (nodes_at ed b) seg ≤ el
        → AtSegment ed b (cleared ed b ws) seg at v → AtNode ed b (cleared ed b ws) seg el w → AtSegment ed b (cleared ed b ws) (seg + 1) next w
    pass_next seg el at next v w q l e h k = record {
      low = omega arith;
      at_is = start_more (node_size ed) b (nodes_at ed b) seg (seg + 1) at next refl h.at_is q;
      marks = marks_segment ed b (cleared ed b ws) room seg el w e (omega (arith, k.low, g.used seg l, g.full seg l)) k.marks;
      left = k.left ∙ left_next _ _ _ seg el e;
    }

    pub pass_end : (seg at : ℕ) (w : List ℕ) → count_of b (nodes_at ed b) ≤ seg → AtSegment ed b (cleared ed b ws) seg at w
        → (Accepted ≡ first_fault (all_range_checks ed b)) × (w ≡ workspace_after ed b ws (first_fault (all_range_checks ed b)))
    unfolding workspace_after
    pass_end seg at w l h =
        let e : seg ≡ count_of b (nodes_at ed b) = omega (arith, h.low) in
        let a : Accepted ≡ first_fault (all_range_checks ed b) = sym (h.left ∙ left_none _ _ _ seg l) in (
          a,
          marks_end ed b g (cleared ed b ws) w room (subst (λ (x : ℕ). Marks ed b (cleared ed b ws) (address x 0) w) e h.marks)
              ∙ marked-same ed b (cleared ed b ws) ws (cleared-rest ed b ws)
              ∙ ap (workspace_after ed b ws) a,
        )

    -- node seg:el, which stands at p; w is the workspace before it, and v after it
    module _ (r : NodesRules ed b) (seg el p : ℕ) (x : Resolves (node_size ed) b (nodes_at ed b) seg el) (place : p ≡ node_at ed b seg el) (w v : List ℕ) (t : Bool)
        (k : MarkedOne ed b p w t v) (h : AtNode ed b (cleared ed b ws) seg el w) where
      place_is : p ≡ node_of ed b (address seg el)
      place_is = place ∙ sym (node-of ed b seg el (small-element ed b g seg el x))

      pub pass_node : t ≡ true → AtNode ed b (cleared ed b ws) seg (el + 1) v
      unfolding tree_of
      pass_node z =
          let u = used-of ed b g seg el x in
          let f = rw place_is at (k.free.so z) in
          let m : Marks ed b (cleared ed b ws) (address seg el + 1) v = rw (k.set z, place_is) (marks_node ed b (cleared ed b ws) room g r (address seg el) u w h.marks) in
          record {
            low = omega (arith, x.el_in);
            marks = subst (λ (y : ℕ). Marks ed b (cleared ed b ws) y v) (omega arith) m;
            left = h.left ∙ left_more ed b seg el x.el_in (free-rule ed b (cleared ed b ws) room g r (address seg el) u w h.marks f);
          }

      pub pass_stop : (z : List ℕ) → t ≡ false → z ≡ cleared ed b v
          → (Refused 21 p ≡ first_fault (all_range_checks ed b)) × (z ≡ workspace_after ed b ws (first_fault (all_range_checks ed b)))
      unfolding tree_of workspace_after
      pass_stop z e q =
          let u = used-of ed b g seg el x in
          let f = rw place_is at (k.free.not e) in
          let a : Refused 21 p ≡ first_fault (all_range_checks ed b) =
          ap (Refused 21) place ∙ sym (h.left ∙ left_stop ed b seg el x.el_in (λ y. f (rule-free ed b (cleared ed b ws) room g r (address seg el) u w h.marks y))) in
          (a, q ∙ cleared-same ed b v ws (ap (drop (used_node_count ed b)) (k.kept e) ∙ h.marks.rest ∙ cleared-rest ed b ws) ∙ ap (workspace_after ed b ws) a)
