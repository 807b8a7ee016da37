use Rattle.strings.proofs.spot.entry_spot.Goals as goal

pub returns : goal.returns
returns c = cc
