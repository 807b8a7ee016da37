use native.Mathlib.Omega.{arith}
use mathlib.Core.Path.{sym}
use Rattle.strings.proofs.Spots.{spot_past, spot_unread, spot-here, segment_in, used_in}
use Rattle.strings.proofs.spot.spot_at.Goals as goal

pub returns-then-seg-chars : goal.returns-then-seg-chars
returns-then-seg-chars c = sym (spot_past _ _ _ _ (omega (arith, c.requires.0.count_is)))

pub overflow_add-p : goal.overflow_add-p
overflow_add-p c = omega (arith, segment_in _ _ c.requires.0 _ _ c.if-seg-chars.false c.locate-p.ensures)

pub u32_at-used-requires : goal.u32_at-used-requires
u32_at-used-requires c = omega (arith, segment_in _ _ c.requires.0 _ _ c.if-seg-chars.false c.locate-p.ensures)

pub returns-then-el-used : goal.returns-then-el-used
returns-then-el-used c = let m = c.requires.0 in spot_unread _ _ m _ _ c.if-seg-chars.false c.locate-p.ensures _ c.u32_at-used.ensures.0 _ c.if-el-used.true

pub overflow_add-result : goal.overflow_add-result
overflow_add-result c = omega (arith, used_in _ _ c.requires.0 _ _ c.if-seg-chars.false c.locate-p.ensures _ c.u32_at-used.ensures.0)

pub overflow_add-result-2 : goal.overflow_add-result-2
overflow_add-result-2 c = omega (arith, used_in _ _ c.requires.0 _ _ c.if-seg-chars.false c.locate-p.ensures _ c.u32_at-used.ensures.0)

pub returns : goal.returns
returns c = let m = c.requires.0 in spot-here _ _ m _ _ c.if-seg-chars.false c.locate-p.ensures _ c.u32_at-used.ensures.0 _ c.if-el-used.false
