use Rattle.layout.specs.declared.Edition.TheVariants.{Bits64}
use Rattle.prefetch.proofs.Doubting.{trusted_doubted}
use Rattle.prefetch.proofs.all.doubt.Goals as goal

pub returns-clause-doubts : goal.returns-clause-doubts
returns-clause-doubts c = trusted_doubted Bits64 _ _ _ c.doubt.ensures.0 c.doubt.ensures.1
