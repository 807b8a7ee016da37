use mathlib.Core.Path.{refl}
use Rattle.text.proofs.Walk.{text_over, text_shut, text_next}
use Rattle.text.proofs.Passed.{passed_start, passed_next, measured}
use native.Mathlib.Omega.{arith}
use Rattle.text.proofs.measure_few.Goals as goal

pub loop-i-init : goal.loop-i-init
loop-i-init c = passed_start _ _ _ _ c.requires.1

pub returns-then-c-eq0 : goal.returns-then-c-eq0
returns-then-c-eq0 c = measured _ _ _ _ _ _ _ c.loop-i.invariant (text_shut _ _ _ _ _ c.loop-i-test.true c.u16_at-c.ensures.0 c.if-c-eq0.true) c.measured.ensures

pub loop-i-preserved : goal.loop-i-preserved
loop-i-preserved c = let l = c.loop-i-test.true in
    passed_next _ _ _ _ _ _ _ _ _ c.loop-i.invariant refl l (text_next _ _ _ _ _ l c.u16_at-c.ensures.0 c.if-c-eq0.false) c.char_on-g.ensures

pub returns : goal.returns
returns c = let e = c.measured-2.ensures in
    measured _ _ _ _ _ _ _ c.loop-i.invariant (text_over _ _ _ _ c.loop-i-test.false) (omega arith, e.1)
