use Rattle.le.specs.Floats.{single_of}
use Rattle.le.proofs.single.Goals as goal

pub returns : goal.returns
unfolding single_of
returns c = cc
