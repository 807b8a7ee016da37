use native.Mathlib.Omega.{arith}
use lib.ListN.{length-set}
use Rattle.le.specs.Le.{le4}
use Rattle.le.proofs.Four.{four_stores}
use Rattle.le.proofs.put_u32.Goals as goal

pub bounds-d-at-2 : goal.bounds-d-at-2
bounds-d-at-2 c = simp length-set (omega arith)

pub bounds-d-at-3 : goal.bounds-d-at-3
bounds-d-at-3 c = simp length-set (omega arith)

pub bounds-d-at-4 : goal.bounds-d-at-4
bounds-d-at-4 c = simp length-set (omega arith)

pub returns : goal.returns
unfolding le4
returns c = four_stores c.args.d.now c.args.at _ _ _ _ c.requires
