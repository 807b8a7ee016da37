use mathlib.Core.Path.{refl}
use Prim.Native.Nat.{◌≤◌}
use borrow.Author.Rules.{rules}
use native.Mathlib.Omega.{arith}
use lib.ListN.{length}
use Rattle.region.specs.Region.{Resolves}
use Rattle.layout.specs.Edition.{node_size}
use Rattle.layout.specs.Layout.{nodes_at}
use Rattle.layout.specs.declared.Edition.TheVariants.{Bits64}
use Rattle.nodes.proofs.Left.{node-place}
use Rattle.nodes.proofs.Ways.{node-fits}
use Rattle.tree.specs.File.{used_node_count}
use Rattle.tree.specs.Marks.{cleared}
use Rattle.tree.proofs.Cleared.{cleared_by, cleared-room}
use Rattle.tree.proofs.Passing.{Inside, inside, pass_start, pass_open, pass_next, pass_end, pass_node, pass_stop}
use Rattle.tree.proofs.Children.{rules-hold}
use Rattle.tree.proofs.marks.mark_nodes.Goals as goal
use Rattle.tree.proofs.marks.mark_nodes.Goals.{Start, In-loop-el, In-segments}

-- the cleared workspace has room for the used nodes
room : (c : Start) → used_node_count Bits64 c.args.nodes.now.file.now ≤ length (cleared Bits64 c.args.nodes.now.file.now c.args.ws.now)
room c = cleared-room Bits64 c.args.nodes.now.file.now c.args.ws.now c.requires.2

-- the code is in a segment
here : (c : In-segments) → Inside Bits64 c.args.nodes.now.file.now c.segments.seg c.segments.at
here c = inside Bits64 c.args.nodes.now.file.now c.args.nodes.now.ready.nodes _ _ c.segments-test.true c.segments.invariant.segment.at_is

-- the code is at a node
there : (c : In-loop-el) → Resolves (node_size Bits64) c.args.nodes.now.file.now (nodes_at Bits64 c.args.nodes.now.file.now) c.segments.seg c.loop-el.el
there c =
    let s = inside Bits64 c.args.nodes.now.file.now c.args.nodes.now.ready.nodes _ _ c.segments-test.true c.segments.invariant.segment.at_is in
    record { seg_in = s.seg_in; el_in = omega (arith, c.loop-el-test.true, c.used_count-el-end.ensures.0, s.used) }

pub segments-init : goal.segments-init
segments-init c = record {
  none = refl;
  segment = pass_start Bits64 c.args.nodes.now.file.now c.args.ws.now _ _ _ c.requires.2 c.first_start-at.ensures c.args.nodes.now.ready.nodes.at_is (cleared_by Bits64 c.args.nodes.now.file.now c.args.ws.now c.args.used c.fill.new.self c.requires.1 (search rules));
}

pub loop-el-init : goal.loop-el-init
loop-el-init c = let i = c.segments.invariant in
    record { none = i.none; node = pass_open Bits64 _ _ _ _ _ (here (goal.at.loop-el-init c).In-segments).seg_in i.segment }

pub mark_node-requires : goal.mark_node-requires
mark_node-requires c = let k = there (goal.at.mark_node-requires c).In-loop-el in
    let p = node-place Bits64 _ _ _ c.loop-el.el c.segments.invariant.segment.at_is in
    record {
      within = (
        c.requires.0,
        node-fits Bits64 _ _ _ _ c.args.nodes.now.ready.laid.nodes k p,
        omega (arith, room (goal.at.mark_node-requires c).Start, c.loop-el.invariant.node.marks.long),
      );
      reached = rw p ((rules-hold c.args.nodes.now.ready).each _ _ k).children.reach;
    }

pub loop-el-preserved : goal.loop-el-preserved
loop-el-preserved c = let i = c.loop-el.invariant in
    record {
      none = i.none;
      node = pass_node Bits64 _ _ (room (goal.at.loop-el-preserved c).Start) c.args.nodes.now.ready.laid.nodes (rules-hold c.args.nodes.now.ready) _ _ _ (there (goal.at.loop-el-preserved c).In-loop-el)
          (node-place Bits64 _ _ _ _ c.segments.invariant.segment.at_is) _ _ _ c.mark_node.ensures i.node c.if-not-mark_node.false;
    }

pub next_start-at-requires : goal.next_start-at-requires
next_start-at-requires c = (here (goal.at.next_start-at-requires c).In-segments).fits

pub segments-preserved : goal.segments-preserved
segments-preserved c = let s = here (goal.at.segments-preserved c).In-segments in
    let i = c.loop-el.invariant in
    record {
      none = i.none;
      segment = pass_next Bits64 _ _ (room (goal.at.segments-preserved c).Start) c.args.nodes.now.ready.laid.nodes _ _ _ _ _ _ c.next_start-at.ensures s.seg_in
          (omega (arith, c.loop-el-test.false, c.used_count-el-end.ensures.0, s.used)) c.segments.invariant.segment i.node;
    }

pub returns-then-not-mark_node : goal.returns-then-not-mark_node
returns-then-not-mark_node c = let long = room (goal.at.returns-then-not-mark_node c).Start in
    let fits : c.args.used ≤ length c.mark_node.new.ws = omega (arith, c.loop-el.invariant.node.marks.long) in
    let e = pass_stop Bits64 c.args.nodes.now.file.now c.args.ws.now long c.args.nodes.now.ready.laid.nodes (rules-hold c.args.nodes.now.ready) _ _ _ (there (goal.at.returns-then-not-mark_node c).In-loop-el)
    (node-place Bits64 _ _ _ _ c.segments.invariant.segment.at_is) _ _ _ c.mark_node.ensures c.loop-el.invariant.node _ c.if-not-mark_node.true (cleared_by Bits64 _ _ _ _ c.requires.1 (search rules)) in
    record { answer = e.0; workspace = e.1 }

pub returns-after-segments : goal.returns-after-segments
returns-after-segments c = let i = c.segments.invariant in
    let e = pass_end Bits64 c.args.nodes.now.file.now c.args.ws.now (room (goal.at.returns-after-segments c).Start) c.args.nodes.now.ready.laid.nodes _ _ _ (omega (arith, c.segments-test.false, c.args.nodes.now.ready.nodes.count_is)) i.segment in
    record { answer = rw i.none e.0; workspace = e.1 }
