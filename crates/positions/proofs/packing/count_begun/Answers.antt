use Prim.Native.Nat.{◌+◌, ◌*◌, ◌≤◌}
use native.Mathlib.Omega.{arith}
use mathlib.Core.Path.{refl}
use lib.ListN.{length}
use Rattle.region.proofs.Samples.{segment-fits, start_more, used-at}
use Rattle.strings.proofs.Spots.{segment_in}
use Rattle.positions.proofs.Ranks.{start_first, begun_start, begun_next, begun_all, begun_fits}
use Rattle.positions.proofs.packing.count_begun.Goals as goal
use Rattle.positions.proofs.packing.count_begun.Goals.{After-u32_at, In-loop-seg}

-- what is known of the segment that a turn is at
turn : (c : After-u32_at) → let p = c.loop-seg.p in let b = c.args.b.now in (p + 8 + 2 * c.u32_at.result ≤ length b) × (c.u32_at.result ≤ 65535)
turn c = begun_fits _ _ c.requires _ _ _ c.loop-seg-test.true c.loop-seg.invariant.place c.u32_at.ensures.0

-- and where it starts
there : (c : In-loop-seg) → c.loop-seg.p + 8 ≤ length c.args.b.now
there c = segment_in _ _ c.requires _ _ c.loop-seg-test.true c.loop-seg.invariant.place

pub loop-seg-init : goal.loop-seg-init
loop-seg-init c = record { place = start_first _ _; count = begun_start _ _; few = omega arith }

pub overflow_add-p-in-loop-seg : goal.overflow_add-p-in-loop-seg
overflow_add-p-in-loop-seg c = record { fits = omega (arith, there (goal.at.overflow_add-p-in-loop-seg c).In-loop-seg, c.requires.short) }

pub overflow_add-p-in-loop-seg-2 : goal.overflow_add-p-in-loop-seg-2
overflow_add-p-in-loop-seg-2 c = record { fits = omega (arith, there (goal.at.overflow_add-p-in-loop-seg-2 c).In-loop-seg, c.requires.short) }

pub u32_at-requires : goal.u32_at-requires
u32_at-requires c = omega (arith, there (goal.at.u32_at-requires c).In-loop-seg)

pub begun_in-n-requires : goal.begun_in-n-requires
begun_in-n-requires c = turn (goal.at.begun_in-n-requires c).After-u32_at

pub overflow_add-n : goal.overflow_add-n
overflow_add-n c = let t = turn (goal.at.overflow_add-n c).After-u32_at in
    record { fits = omega (arith, c.loop-seg.invariant.few, c.begun_in-n.ensures.1, t.1, c.requires.count_is, c.requires.laid.few) }

pub next_start-p-requires : goal.next_start-p-requires
next_start-p-requires c = segment-fits 2 _ _ c.requires _ _ c.loop-seg-test.true c.loop-seg.invariant.place

pub loop-seg-preserved : goal.loop-seg-preserved
loop-seg-preserved c = let i = c.loop-seg.invariant in record {
  place = start_more 2 _ _ _ _ _ _ refl i.place c.next_start-p.ensures;
  count = begun_next _ _ _ _ _ _ _ i.count i.place (used-at 2 _ _ _ _ _ i.place c.u32_at.ensures.0) c.begun_in-n.ensures.0;
  few = omega (arith, i.few, c.begun_in-n.ensures.1, (turn (goal.at.loop-seg-preserved c).After-u32_at).1);
}

pub returns : goal.returns
returns c = begun_all _ _ _ _ c.loop-seg.invariant.count (omega (arith, c.loop-seg-test.false, c.requires.count_is))
