use Rattle.hash.proofs.Linear.{zeros_lt}
use Rattle.hash.proofs.Lent.{four_step}
use Rattle.hash.proofs.HashTables.bytes_on.Goals as goal

pub returns : goal.returns
returns c = let g = four_step _ c.args.self.now.made _ _ _ _ _ _ _ _ _ _ c.requires.0 c.requires.1
    c.low.ensures.0 c.low-2.ensures.0 c.low-3.ensures.0 c.low-4.ensures.0
    c.wide.ensures c.wide-2.ensures.0 c.wide-3.ensures.0 c.wide-4.ensures.0 in
    (g, rw g (zeros_lt _ _ c.requires.1))
