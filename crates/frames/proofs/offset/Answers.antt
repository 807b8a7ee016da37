use mathlib.Core.Path.{◌∙◌}
use native.Mathlib.Omega.{arith}
use Rattle.frames.proofs.Offsets.{offset_start, offset_fits, offset_more, offset_other, offset_end, offset_spaceless}
use Rattle.frames.proofs.offset.Goals as goal

pub loop-i-init : goal.loop-i-init
loop-i-init c = offset_start c.requires

pub returns-in_err-d : goal.returns-in_err-d
returns-in_err-d c = c.from_residual.ensures ∙ offset_other c.loop-i.invariant c.loop-i-test.true c.in_err-d.ensures

pub overflow_mul-number : goal.overflow_mul-number
overflow_mul-number c = omega (arith, offset_fits c.loop-i.invariant)

pub overflow_add-number : goal.overflow_add-number
overflow_add-number c = omega (arith, offset_fits c.loop-i.invariant)

pub loop-i-preserved : goal.loop-i-preserved
loop-i-preserved c = rw c.from.ensures (offset_more c.loop-i.invariant c.loop-i-test.true c.in_ok-d.ensures)

pub returns-then-input-p-eq32 : goal.returns-then-input-p-eq32
returns-then-input-p-eq32 c = offset_end c.loop-i.invariant c.loop-i-test.false c.if-input-p-eq32.true

pub returns : goal.returns
returns c = offset_spaceless c.loop-i.invariant c.loop-i-test.false c.if-input-p-eq32.false
