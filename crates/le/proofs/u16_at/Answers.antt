use Rattle.le.specs.Le.{u16_at}
use borrow.Author.Rules.{rules}
use Rattle.le.proofs.u16_at.Goals as goal

pub returns : goal.returns
unfolding u16_at
returns c = search rules
