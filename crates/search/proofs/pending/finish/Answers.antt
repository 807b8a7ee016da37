use Rattle.search.proofs.Searches.{searching_end}
use Rattle.search.proofs.pending.finish.Goals as goal

pub returns : goal.returns
returns c = searching_end _ _ _ _ c.loop-x.invariant c.loop-x-test.false
