use Rattle.hash.proofs.Halves.{low-folded}
use Rattle.hash.proofs.fold_low.Goals as goal

pub returns : goal.returns
returns c = low-folded c.args.w c.requires
