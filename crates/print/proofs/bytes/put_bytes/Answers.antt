use mathlib.Core.Path.{refl, sym}
use native.Mathlib.Omega.{arith}
use borrow.Author.Rules.{rules}
use lib.ListN.{drop_of_length-le}
use Rattle.laws.proofs.Drops.{drop_next}
use Rattle.print.proofs.Puts.{left_start, left_more, left_end}
use Rattle.print.proofs.bytes.put_bytes.Goals as goal

pub loop-c-init : goal.loop-c-init
loop-c-init c = left_start (search rules) (search rules) refl

pub loop-c-preserved : goal.loop-c-preserved
loop-c-preserved c = left_more c.loop-c.invariant c.put-p.ensures (sym (drop_next _ c.loop-c.c-index (omega arith)))

pub returns : goal.returns
returns c = left_end c.loop-c.invariant (drop_of_length-le _ c.loop-c-test.false)
