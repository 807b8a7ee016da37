use native.Mathlib.Omega.{arith}
use borrow.Author.Rules.{rules}
use Rattle.print.proofs.Puts.{left_start, left_more, left_end}
use Rattle.print.proofs.Texts.{space_all, space_more, space_none}
use Rattle.print.proofs.bytes.put_spaces.Goals as goal

pub loop-init : goal.loop-init
loop-init c = left_start (search rules) (search rules) (space_all c.args.n)

pub loop-preserved : goal.loop-preserved
loop-preserved c = left_more c.loop.invariant c.put-p.ensures (space_more _ c.loop.counter (omega arith))

pub returns : goal.returns
returns c = left_end c.loop.invariant (space_none _ _ c.loop-test.false)
