use native.Mathlib.Omega.{arith}
use Rattle.positions.proofs.Ranks.{begun_none, begun_some}
use Rattle.positions.proofs.packing.begun_in.Goals as goal

pub returns-then-n-eq0 : goal.returns-then-n-eq0
returns-then-n-eq0 c = (begun_none _ _ _ c.if-n-eq0.true, omega arith)

pub returns : goal.returns
returns c = (begun_some _ _ _ _ c.if-n-eq0.false c.zeros.ensures.0, omega (arith, c.zeros.ensures.1, c.if-n-eq0.false))
