use Rattle.print.proofs.Puts.{put_same, put_then}
use Rattle.print.proofs.Texts.{decimal-one, decimal_more}
use native.Mathlib.Omega.{arith}
use Rattle.print.proofs.numbers.+put_decimal.Goals as goal

pub returns-then-x-lt10 : goal.returns-then-x-lt10
returns-then-x-lt10 t c = put_same (decimal-one c.args.x c.if-x-lt10.true) c.put.ensures

pub returns : goal.returns
returns t c =
    put_same (decimal_more c.args.x c.if-x-lt10.false (omega arith))
    (put_then (omega arith) c.put_decimal-p.ensures c.put-2.ensures)
