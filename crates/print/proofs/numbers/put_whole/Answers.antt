use mir.Facts.{to_z-of_z}
use native.Mathlib.Omega.{arith}
use Rattle.print.proofs.Puts.{put_same, put_then}
use Rattle.print.proofs.Texts.{whole-up, whole-down}
use Rattle.print.proofs.numbers.put_whole.Goals as goal

pub returns-then-z-ge0 : goal.returns-then-z-ge0
returns-then-z-ge0 c = put_same (whole-up _ _ _ (to_z-of_z c.ranges.z) c.if-z-ge0.true c.unsigned_abs-n.ensures.value) c.put_decimal.ensures

pub returns : goal.returns
returns c = put_same (whole-down _ _ _ (to_z-of_z c.ranges.z) c.if-z-ge0.false c.unsigned_abs-n.ensures.value)
    (put_then (omega arith) c.put-p.ensures c.put_decimal-2.ensures)
