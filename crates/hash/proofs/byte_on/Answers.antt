use Rattle.hash.proofs.Lent.{byte_step}
use Rattle.hash.proofs.Laws.{byte_lt}
use Rattle.hash.proofs.byte_on.Goals as goal

pub returns : goal.returns
returns c = let e = byte_step _ _ _ _ _ c.requires.0 c.low.ensures.0 c.wide.ensures.0 in
    (e, rw e (byte_lt _ _ c.requires.1))
