use Rattle.search.proofs.Searches.{searching-all, searching_in, searches_more, searches_upto}
use native.Mathlib.Omega.{arith}
use Rattle.search.proofs.pending.begin_each.Goals as goal

pub loop-j-preserved : goal.loop-j-preserved
loop-j-preserved c = let w = c.loop-j.invariant in
    let l = c.loop-j-test.true in
    let n = c.requires.0 in
    searches_more _ _ _ _ w (omega (arith, l, n)) _ _ c.wide.ensures.0
    (searching_in _ _ _ _ _ c.bucket-k.ensures.0 (searching-all _ _ _ _ c.entry_count.ensures))

pub returns : goal.returns
returns c = searches_upto _ _ _ _ c.loop-j.invariant _ c.loop-j-test.false
