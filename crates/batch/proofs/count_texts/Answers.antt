use Prim.Native.Nat.{◌%◌}
use mathlib.Core.Path.{◌≡◌}
use native.Mathlib.Omega.{arith}
use lib.ListN.{length}
use Rattle.batch.proofs.Zeros.{counting_few, counting_more, counting_all}
use Rattle.batch.proofs.count_texts.Goals as goal
use Rattle.batch.proofs.count_texts.Goals.{In-Some}

-- a block has whole characters
even : (c : In-Some) → length c.in-Some.block.now % 2 ≡ 0
even c = let i = c.loop-block.invariant in let s = c.in-Some.ensures.steps in omega (arith, s.1.1, i.size, i.counting.even)

pub overflow_add-n : goal.overflow_add-n
overflow_add-n c =
    let w = counting_few c.loop-block.invariant.counting _ _ c.in-Some.ensures.steps.1.0 (even (goal.at.overflow_add-n c).In-Some) in
    record { fits = omega (arith, w, c.zeros-n.ensures.0) }

pub loop-block-preserved : goal.loop-block-preserved
loop-block-preserved c =
    let i = c.loop-block.invariant in
    let s = c.in-Some.ensures.steps in
    let w = counting_more i.counting _ _ s.1.0 (even (goal.at.loop-block-preserved c).In-Some) in
    record { size = omega (arith, s.0, i.size); counting = rw c.zeros-n.ensures.0 w }

pub returns : goal.returns
returns c = counting_all c.loop-block.invariant.counting c.in-None.ensures.steps.1.0
