use Rattle.print.proofs.Texts.{digit_low, digit_high, digit_lt}
use native.Mathlib.Omega.{arith}
use Rattle.print.proofs.numbers.hex_digit.Goals as goal

pub returns-then-d-lt10 : goal.returns-then-d-lt10
returns-then-d-lt10 c = digit_low c.args.x c.args.i c.if-d-lt10.true

pub overflow_add-result-2 : goal.overflow_add-result-2
overflow_add-result-2 c = omega (arith, digit_lt c.args.x c.args.i)

pub overflow_cast-result-2 : goal.overflow_cast-result-2
overflow_cast-result-2 c = omega (arith, digit_lt c.args.x c.args.i)

pub returns : goal.returns
returns c = digit_high c.args.x c.args.i c.if-d-lt10.false
