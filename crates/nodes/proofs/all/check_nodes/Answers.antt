use Prim.Native.Nat.{◌+◌, ◌*◌, ◌≤◌}
use native.Mathlib.Omega.{arith}
use mathlib.Core.Path.{◌≡◌, refl, sym, ◌∙◌}
use Rattle.std.specs.Prelude.{Result, Ok, Err, true, false}
use Rattle.std.specs.Result.{is_err}
use lib.ListN.{length}
use Rattle.le.specs.Le.{u32_at}
use Rattle.verdict.specs.Verdict.{Accepted, answer_of, refused}
use Rattle.verdict.specs.declared.Refusal.{Refusal}
use Rattle.region.specs.Region.{Resolves}
use Rattle.region.proofs.Samples.{segment-fits, start_more, used-at}
use Rattle.layout.specs.Edition.{node_size}
use Rattle.layout.specs.Layout.{nodes_at}
use Rattle.layout.specs.declared.Edition.TheVariants.{Bits64}
use Rattle.nodes.proofs.Left.{no_segment, no_node, first-at, nodes_start, node_in, node-place}
use Rattle.nodes.proofs.Rows.{left_open, left_more, left_stop, left_next, left_none}
use Rattle.nodes.proofs.all.check_nodes.Goals as goal
use Rattle.nodes.proofs.all.check_nodes.Goals.{In-segments, In-loop-el}

-- what a check's answer says
passes : {T : Type 0} (r : Result T Refusal) → is_err r ≡ false → answer_of r ≡ Accepted
passes (Ok x) e = refl
passes (Err x) e = cc

stops : {T : Type 0} (r : Result T Refusal) → is_err r ≡ true → (x : Refusal) × (answer_of r ≡ refused x)
stops (Ok x) e = absurd (cc)
stops (Err x) e = (x, refl)

-- the segment that a turn is at lies in the file
turn : (c : In-segments) → let b = c.args.prepared.now.file.now in let at = c.segments.at in at + 8 + u32_at b at * node_size Bits64 ≤ length b
turn c = segment-fits (node_size Bits64) _ _ c.args.prepared.now.ready.placed.nodes _ _ c.segments-test.true c.segments.invariant.at_is

-- the node that a turn is at
here : (c : In-loop-el) → let b = c.args.prepared.now.file.now in Resolves (node_size Bits64) b (nodes_at Bits64 b) c.segments.seg c.loop-el.el
here c = node_in Bits64 _ _ c.args.prepared.now.ready.placed.nodes _ _ c.segments-test.true c.segments.invariant.at_is _ _ c.used_count-el-end.ensures.0 c.loop-el-test.true

pub returns-then-nodes-eq0-clause-answer : goal.returns-then-nodes-eq0-clause-answer
returns-then-nodes-eq0-clause-answer c = no_segment Bits64 _ _ c.args.prepared.now.ready.placed.nodes c.if-nodes-eq0.true

pub used_count-requires : goal.used_count-requires
used_count-requires c = let w = c.args.prepared.now.ready.placed.nodes in
    omega (arith, segment-fits (node_size Bits64) _ _ w 0 _ (omega (arith, c.if-nodes-eq0.false)) (first-at Bits64 _ _ w _ c.first_start-at.ensures))

pub returns-then-used_count-eq0-clause-answer : goal.returns-then-used_count-eq0-clause-answer
returns-then-used_count-eq0-clause-answer c = no_node Bits64 _ _ c.args.prepared.now.ready.placed.nodes _ _ c.first_start-at.ensures c.used_count.ensures.0 c.if-used_count-eq0.true

pub segments-init : goal.segments-init
segments-init c = let w = c.args.prepared.now.ready.placed.nodes in
    let e = c.first_start-at.ensures in
    record {
      at_is = first-at Bits64 _ _ w _ e;
      none = refl;
      left = nodes_start Bits64 _ _ w _ _ e c.used_count.ensures.0 c.if-nodes-eq0.false c.if-used_count-eq0.false;
      memo = c.requires.1;
    }

pub loop-el-init : goal.loop-el-init
loop-el-init c = let i = c.segments.invariant in
    record { none = i.none; left = i.left ∙ left_open _ _ _ _ (omega (arith, c.segments-test.true, c.args.prepared.now.ready.placed.nodes.count_is)); memo = i.memo }

pub check_node-answer-requires : goal.check_node-answer-requires
check_node-answer-requires c = record {
  node = (here (goal.at.check_node-answer-requires c).In-loop-el, node-place Bits64 _ _ _ _ c.segments.invariant.at_is);
  doubts = (c.requires.0, c.loop-el.invariant.memo);
}

pub loop-el-preserved : goal.loop-el-preserved
loop-el-preserved c = let w = c.check_node-answer.ensures in
    let e = passes _ (cc) in
    record { none = e; left = c.loop-el.invariant.left ∙ left_more _ _ _ _ _ (here (goal.at.loop-el-preserved c).In-loop-el).el_in w.answer e; memo = w.memo }

pub next_start-at-requires : goal.next_start-at-requires
next_start-at-requires c = turn (goal.at.next_start-at-requires c).In-segments

pub segments-preserved : goal.segments-preserved
segments-preserved c = let q = c.segments.invariant.at_is in
    let i = c.loop-el.invariant in
    record {
      at_is = start_more (node_size Bits64) _ _ _ _ _ _ refl q c.next_start-at.ensures;
      none = i.none;
      left = i.left ∙ left_next _ _ _ _ _ (omega (arith, used-at _ _ _ _ _ _ q c.used_count-el-end.ensures.0));
      memo = i.memo;
    }

pub returns-after-segments-clause-answer : goal.returns-after-segments-clause-answer
returns-after-segments-clause-answer c = let i = c.segments.invariant in
    i.none ∙ sym (i.left ∙ left_none _ _ _ _ (omega (arith, c.segments-test.false, c.args.prepared.now.ready.placed.nodes.count_is)))

pub returns-then-is_err-clause-answer : goal.returns-then-is_err-clause-answer
returns-then-is_err-clause-answer c = let w = c.check_node-answer.ensures in
    let e = stops _ (cc) in
    e.1 ∙ sym (c.loop-el.invariant.left ∙ left_stop _ _ _ _ _ (here (goal.at.returns-then-is_err-clause-answer c).In-loop-el).el_in w.answer e.1)
