use native.Mathlib.Omega.{arith}
use Rattle.strings.proofs.Places.{index_at}
use Rattle.positions.proofs.CountedBelow.{counted_start, counted_one, counted_other, counted_end}
use Rattle.positions.proofs.uncarried.count_carrying_in.Goals as goal
use Rattle.positions.proofs.uncarried.count_carrying_in.Goals.{then-index-m, else-index-m}

pub loop-j-init : goal.loop-j-init
loop-j-init c = counted_start _ _ _

pub loop-j-preserved : goal.loop-j-preserved
loop-j-preserved c = let l = c.loop-j-test.true in
    let n = c.entry_count-n.ensures in
    let i = c.loop-j.invariant in
    let x = index_at _ _ _ _ _ c.entry_at-e.ensures.0 c.index.ensures in
    elim c.if-index-m.branch [
      | then-index-m w ↦ rw w.c-is (counted_one _ _ _ _ _ i _ (omega (arith, l, n)) x w.if-index-m.true)
      | else-index-m w ↦ rw w.c-is (counted_other _ _ _ _ _ i _ (omega (arith, l, n)) x w.if-index-m.false)
    ]

pub returns : goal.returns
returns c = counted_end _ _ _ _ _ c.loop-j.invariant (omega (arith, c.loop-j-test.false, c.entry_count-n.ensures))
