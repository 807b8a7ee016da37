use Rattle.positions.proofs.CountedBelow.{between_start, between_up, between_down, between_end}
use native.Mathlib.Omega.{arith}
use Rattle.positions.proofs.uncarried.first_uncarried.Goals as goal

pub loop-lo-init : goal.loop-lo-init
loop-lo-init c = let p = c.requires in between_start _ p.0 _ p.1 p.2

pub loop-lo-preserved-then-count_carrying-mid : goal.loop-lo-preserved-then-count_carrying-mid
loop-lo-preserved-then-count_carrying-mid c = let l = c.loop-lo-test.true in
    between_up _ c.requires.0 _ _ _ _ c.loop-lo.invariant (omega (arith, l)) (omega (arith, l)) c.count_carrying.ensures.0 c.if-count_carrying-mid.true

pub loop-lo-preserved : goal.loop-lo-preserved
loop-lo-preserved c = let l = c.loop-lo-test.true in
    between_down _ c.requires.0 _ _ _ _ c.loop-lo.invariant (omega (arith, l)) (omega (arith, l)) c.count_carrying.ensures.0 c.if-count_carrying-mid.false

pub returns : goal.returns
returns c = between_end _ c.requires.0 _ _ c.loop-lo.invariant (omega (arith, c.loop-lo-test.false))
