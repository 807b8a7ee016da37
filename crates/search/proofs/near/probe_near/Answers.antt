use native.Mathlib.Omega.{arith}
use Rattle.search.proofs.Nearby.{near_none, near_few, near_eight, near_told}
use Rattle.search.proofs.near.probe_near.Goals as goal

pub returns-then-n-eq0 : goal.returns-then-n-eq0
returns-then-n-eq0 c = near_none _ _ _ _ c.entry_count-n.ensures c.if-n-eq0.true

pub returns-then-n-lt8 : goal.returns-then-n-lt8
returns-then-n-lt8 c = near_few _ _ _ _ c.entry_count-n.ensures _ c.if-n-lt8.true c.count_few.ensures.0

pub returns : goal.returns
returns c = rw c.then_some.ensures
    (near_told _ _ _ _ _ c.settled.ensures (near_eight _ _ _ _ c.entry_count-n.ensures _ _ (omega arith) c.count_few-c.ensures.0))
