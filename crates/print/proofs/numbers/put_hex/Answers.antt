use mathlib.Core.Path.{refl}
use native.Mathlib.Omega.{arith}
use borrow.Author.Rules.{rules}
use Rattle.print.proofs.Puts.{left_start, left_more, left_end}
use Rattle.print.proofs.Texts.{hex_more, hex_none}
use Rattle.print.proofs.numbers.put_hex.Goals as goal

pub loop-i-init : goal.loop-i-init
loop-i-init c = left_start (search rules) (search rules) refl

pub loop-i-preserved : goal.loop-i-preserved
loop-i-preserved c = let l = c.loop-i in left_more l.invariant c.put-p.ensures (hex_more _ l.i _ (omega arith) c.hex_digit.ensures)

pub returns : goal.returns
returns c = left_end c.loop-i.invariant (hex_none _ _ c.loop-i-test.false)
