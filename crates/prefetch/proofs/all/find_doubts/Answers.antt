use Rattle.le.specs.Le.{u32_at}
use Rattle.region.proofs.Samples.{start_more, used-at}
use Rattle.prefetch.proofs.Rights.{rows_start, segment_in, row_in, rows_none, rows_still, rows_more}
use Rattle.prefetch.proofs.Doubting.{still}
use Prim.Native.Nat.{◌+◌, ◌*◌, ◌≤◌}
use mathlib.Core.Path.{refl, ap, sym, subst, ◌∙◌}
use lib.ListN.{length}
use Rattle.layout.specs.Edition.{attribute_size}
use Rattle.layout.specs.declared.Edition.TheVariants.{Bits64}
use Rattle.layout.specs.Layout.{values}
use Rattle.positions.specs.inner.Packed.{Packed}
use Rattle.prefetch.proofs.Taking.{passed_trusted}
use native.Mathlib.Omega.{arith}
use Rattle.prefetch.proofs.all.find_doubts.Goals as goal
use Rattle.prefetch.proofs.all.find_doubts.Goals.{After-used_count-used, In-loop-seg}

-- the segment that a turn is at lies in the file, and so does its used part
turn : (c : In-loop-seg) → let at = c.loop-seg.at in at + 8 + u32_at c.args.prepared.now.file.now at * attribute_size Bits64 ≤ length c.args.prepared.now.file.now
turn c = segment_in Bits64 _ c.args.prepared.now.ready.placed.attributes _ _ c.loop-seg-test.true c.loop-seg.invariant.0

row : (c : After-used_count-used) → c.loop-seg.at + 8 + c.used_count-used.result * attribute_size Bits64 ≤ length c.args.prepared.now.file.now
row c = row_in Bits64 _ c.args.prepared.now.ready.placed.attributes _ _ c.loop-seg-test.true c.loop-seg.invariant.0 _ c.used_count-used.ensures.0

pub loop-seg-init : goal.loop-seg-init
loop-seg-init c = (rows_start Bits64 _ c.args.prepared.now.ready.placed.attributes _ c.first_start-at.ensures, refl, rows_none Bits64 _ _, c.requires.1)

pub take_texts-taken-requires : goal.take_texts-taken-requires
take_texts-taken-requires c = (row (goal.at.take_texts-taken-requires c).After-used_count-used, omega (arith, c.args.prepared.now.ready.strings.small), c.loop-el.invariant.0, c.loop-el.invariant.1)

pub examine_batch-requires : goal.examine_batch-requires
examine_batch-requires c = let t = c.take_texts-taken.ensures in
    let e = c.values-values.ensures in
    let v = c.values-values.result.of_file ∙ ap (values Bits64) e in
    (t.slotted.long, rw e t.slotted.within, t.slotted.few, λ z. subst Packed (sym v) (c.requires.0 z), rw e c.loop-el.invariant.4)

pub loop-el-preserved : goal.loop-el-preserved
loop-el-preserved c = let t = c.take_texts-taken.ensures in
    let i = c.loop-el.invariant in
    let d = rw c.values-values.ensures at c.examine_batch.ensures.doubts in
    (t.upto, t.slotted.long, rows_still Bits64 _ _ _ _ d.kept i.2, passed_trusted Bits64 _ _ _ _ _ _ _ t.slotted d.each (λ n l. still d.kept (i.3 n l)), rw c.values-values.ensures at c.examine_batch.ensures.memo)

pub next_start-at-requires : goal.next_start-at-requires
next_start-at-requires c = turn (goal.at.next_start-at-requires c).In-loop-seg

pub loop-seg-preserved : goal.loop-seg-preserved
loop-seg-preserved c = let i = c.loop-seg.invariant in
    let j = c.loop-el.invariant in
    (start_more (attribute_size Bits64) _ _ _ _ _ _ refl i.0 c.next_start-at.ensures, j.1, rows_more Bits64 _ _ _ _ _ _ j.2 i.0 (used-at _ _ _ _ _ _ i.0 c.used_count-used.ensures.0) c.loop-el-test.false j.3, j.4)
