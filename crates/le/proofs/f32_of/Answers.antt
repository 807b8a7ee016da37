use lib.Ieee.{div, of_bits, binary32}
use Rattle.le.proofs.Nan.{no_nan, a_nan}
use Rattle.le.proofs.f32_of.Goals as goal

pub float_from_bits-result : goal.float_from_bits-result
float_from_bits-result c = no_nan binary32 c.args.bits c.if-bits-le2139095040.true

pub returns-else-bits-le2139095040 : goal.returns-else-bits-le2139095040
unfolding div of_bits
returns-else-bits-le2139095040 c = a_nan binary32 c.args.bits c.if-bits-le2139095040.false
