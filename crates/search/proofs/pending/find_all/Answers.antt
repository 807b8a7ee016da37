use Rattle.search.proofs.Searches.{searching-of, near_more, near_upto}
use native.Mathlib.Omega.{arith}
use Rattle.search.proofs.pending.find_all.Goals as goal

pub finish-requires : goal.finish-requires
finish-requires c = searching-of _ _ _ _ c.wide.ensures.0 (c.halve_all.ensures.each _ c.loop-j-test.true)

pub loop-j-preserved : goal.loop-j-preserved
loop-j-preserved c = let l = c.loop-j-test.true in
    near_more _ _ _ _ c.loop-j.invariant (omega (arith, l, c.requires.1)) _ _ c.wide.ensures.0 c.finish.ensures

pub returns : goal.returns
returns c = near_upto _ _ _ _ c.loop-j.invariant _ c.loop-j-test.false
