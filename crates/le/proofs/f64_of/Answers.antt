use lib.Ieee.{div, of_bits, binary64}
use Rattle.le.proofs.Nan.{no_nan, a_nan}
use Rattle.le.proofs.f64_of.Goals as goal

pub float_from_bits-result : goal.float_from_bits-result
float_from_bits-result c = no_nan binary64 c.args.bits c.if-bits-le9218868437227405312.true

pub returns-else-bits-le9218868437227405312 : goal.returns-else-bits-le9218868437227405312
unfolding div of_bits
returns-else-bits-le9218868437227405312 c = a_nan binary64 c.args.bits c.if-bits-le9218868437227405312.false
