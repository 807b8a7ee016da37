use Rattle.memo.proofs.Laws.{taken}
use Rattle.memo.proofs.remember.Goals as goal

pub returns : goal.returns
returns c = taken _ _ _ _ _ c.slot-s.ensures
