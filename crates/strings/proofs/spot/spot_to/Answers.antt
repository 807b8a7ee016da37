use Rattle.strings.proofs.spot.spot_to.Goals as goal

pub returns : goal.returns
returns c = cc
