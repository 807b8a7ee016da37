use Rattle.le.specs.Le.{u64_at}
use borrow.Author.Rules.{rules}
use Rattle.le.proofs.u64_at.Goals as goal

pub returns : goal.returns
unfolding u64_at
returns c = search rules
