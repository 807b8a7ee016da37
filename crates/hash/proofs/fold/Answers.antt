use Rattle.hash.proofs.Halves.{fold_one}
use Rattle.hash.proofs.fold.Goals as goal

pub returns-then-c-lt128 : goal.returns-then-c-lt128
returns-then-c-lt128 c = fold_one _ _ c.requires c.fold_low.ensures
