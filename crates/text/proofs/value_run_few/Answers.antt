use mathlib.Core.Path.{refl}
use Rattle.text.proofs.Walk.{text_shut, text_next}
use Rattle.text.proofs.Passed.{folded_start, folded_next, value-met, value-passed}
use Rattle.text.proofs.value_run_few.Goals as goal

pub loop-i-init : goal.loop-i-init
loop-i-init c = folded_start _ _ _ _ c.requires.1

pub returns-then-c-eq0 : goal.returns-then-c-eq0
returns-then-c-eq0 c = let l = c.loop-i-test.true in
    value-met _ _ _ _ _ _ _ c.loop-i.invariant (text_shut _ _ _ _ _ l c.u16_at-c.ensures.0 c.if-c-eq0.true) l c.low_14.ensures

pub loop-i-preserved : goal.loop-i-preserved
loop-i-preserved c = let l = c.loop-i-test.true in
    folded_next _ _ _ _ _ _ _ _ _ _ c.loop-i.invariant refl l (text_next _ _ _ _ _ l c.u16_at-c.ensures.0 c.if-c-eq0.false) c.fold.ensures.0 c.char_on-g.ensures

pub returns : goal.returns
returns c = value-passed _ _ _ _ _ _ c.loop-i.invariant c.loop-i-test.false
