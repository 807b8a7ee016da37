use Prim.Native.Nat.{◌+◌}
use native.Mathlib.Omega.{arith}
use Rattle.strings.specs.inner.Lent.{lent_table}
use Rattle.positions.proofs.Enough.{few-entries}
use Rattle.positions.proofs.CountedBelow.{Summed, summed_start, summed_most, summed_more, summed_end}
use Rattle.positions.proofs.uncarried.count_carrying.Goals as goal
use Rattle.positions.proofs.uncarried.count_carrying.Goals.{After-count_carrying_in-c}

-- the sum with the next bucket's count
next : (c : After-count_carrying_in-c) → let a = c.args in Summed (lent_table a.table.now) a.m (c.loop-k.k + 1) (c.loop-k.c + c.count_carrying_in-c.result)
next c = let e = c.count_carrying_in-c.ensures in summed_more _ _ _ _ c.loop-k.invariant _ c.loop-k-test.true e.0 e.1

pub loop-k-init : goal.loop-k-init
loop-k-init c = summed_start _ _

pub overflow_add-c : goal.overflow_add-c
overflow_add-c c =
    record { fits = omega (arith, summed_most _ _ _ _ (next (goal.at.overflow_add-c c).After-count_carrying_in-c), few-entries _ _ _ _ c.args.table.now.held) }

pub loop-k-preserved : goal.loop-k-preserved
loop-k-preserved c = next (goal.at.loop-k-preserved c).After-count_carrying_in-c

pub returns : goal.returns
returns c = summed_end _ _ _ _ c.loop-k.invariant c.loop-k-test.false
