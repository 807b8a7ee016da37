use lib.Bits.{and_mask, mask_lt}
use Rattle.words.specs.Words.{flags_of}
use Rattle.words.proofs.flags.Goals as goal

pub returns : goal.returns
unfolding flags_of
returns c = (and_mask c.args.w 4, mask_lt c.args.w 4)
