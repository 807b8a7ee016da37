use native.Mathlib.Omega.{arith}
use Rattle.frames.proofs.Steps.{reach_start, reach_end, reach_other, reach-on, reach_frame}
use Rattle.frames.proofs.read_frames.Goals as goal

pub loop-p-init : goal.loop-p-init
loop-p-init c = reach_start c.requires

pub returns-in_default : goal.returns-in_default
returns-in_default c = let both = reach_other c.loop-p.invariant c.loop-p-test.true c.in_default.ensures.answer c.read_line.ensures.bytes in
    record { answer = both.0; file = both.1 }

pub loop-p-smaller : goal.loop-p-smaller
loop-p-smaller c = let p = reach-on c.loop-p.invariant c.loop-p-test.true c.in-Some.ensures.answer in omega arith

pub loop-p-preserved : goal.loop-p-preserved
loop-p-preserved c = reach_frame c.loop-p.invariant c.loop-p-test.true c.in-Some.ensures.answer c.read_line.ensures.bytes

pub returns : goal.returns
returns c = let both = reach_end c.loop-p.invariant c.loop-p-test.false in record { answer = both.0; file = both.1 }
