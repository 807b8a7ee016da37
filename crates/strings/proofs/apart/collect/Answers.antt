use Rattle.strings.proofs.Differing.{collecting_next}
use Rattle.strings.proofs.apart.collect.Goals as goal

pub loop-n-preserved : goal.loop-n-preserved
loop-n-preserved c =
    collecting_next _ _ _ _ _ _ c.loop-n.invariant _ _ c.loop-n-test.true c.fingerprint_at-x.ensures c.if-met.false c.met.ensures c.insert.ensures
