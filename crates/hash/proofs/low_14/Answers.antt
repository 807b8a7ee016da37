use lib.Bits.{and_mask}
use Rattle.hash.specs.Fold.{value_hash_of}
use Rattle.hash.proofs.low_14.Goals as goal

pub returns : goal.returns
unfolding value_hash_of
returns c = and_mask c.args.h 14
