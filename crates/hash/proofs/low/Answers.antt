use lib.Bits.{and_mask, mask_lt}
use Rattle.hash.proofs.low.Goals as goal

pub returns : goal.returns
returns c = (and_mask c.args.x 8, mask_lt c.args.x 8)
