use native.Mathlib.Omega.{arith}
use Rattle.print.proofs.Puts.{left_start, left_more, left_end}
use Rattle.outline.proofs.Written.{text-start, text_next, text-zero, text-past}
use Rattle.outline.proofs.texts.put_chars.Goals as goal

pub loop-i-init : goal.loop-i-init
loop-i-init c = left_start (omega arith) (omega arith) (text-start _ _ _)

pub returns-then-c-eq0 : goal.returns-then-c-eq0
returns-then-c-eq0 c = let l = c.loop-i in left_end l.invariant (text-zero _ _ _ l.i c.u16_at-c.ensures.0 c.if-c-eq0.true)

pub loop-i-preserved : goal.loop-i-preserved
loop-i-preserved c = let l = c.loop-i in
    left_more l.invariant c.put_char-p.ensures (text_next _ _ _ l.i c.u16_at-c.ensures.0 (omega arith) c.if-c-eq0.false)

pub returns : goal.returns
returns c = left_end c.loop-i.invariant (text-past _ _ _ c.loop-i.i (omega arith))
