use Rattle.search.proofs.Searches.{searching-of, searches_on}
use native.Mathlib.Omega.{arith}
use Rattle.search.proofs.pending.halve_all.Goals as goal

pub halve-x-requires : goal.halve-x-requires
halve-x-requires c = searching-of _ _ _ _ c.wide.ensures.0 (c.loop-j.invariant.each _ c.loop-j-test.true)

pub loop-j-preserved : goal.loop-j-preserved
loop-j-preserved c = searches_on _ _ _ _ c.loop-j.invariant _ (omega (arith, c.loop-j-test.true, c.requires.0)) _ _ c.wide.ensures.0 c.halve-x.ensures.0
