use Rattle.le.specs.Floats.{double_at}
use Rattle.le.proofs.double_at.Goals as goal

pub returns : goal.returns
unfolding double_at
returns c = cc
