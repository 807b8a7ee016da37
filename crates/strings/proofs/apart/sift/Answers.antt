use Rattle.strings.proofs.Differing.{clear_next}
use Rattle.strings.proofs.apart.sift.Goals as goal

pub loop-j-preserved : goal.loop-j-preserved
loop-j-preserved c = clear_next _ _ _ _ _ c.loop-j.invariant c.if-met.false c.met.ensures
