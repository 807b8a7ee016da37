use Rattle.search.proofs.Searches.{held, looked_upto, looked_told, looked_not}
use native.Mathlib.Omega.{arith}
use Rattle.search.proofs.group.probe_each.Goals as goal
use Rattle.search.proofs.group.probe_each.Goals.{then-is_none, else-is_none}

pub loop-j-preserved : goal.loop-j-preserved
loop-j-preserved c = let w = c.loop-j.invariant in
    let l = c.loop-j-test.true in
    let n = c.requires.0 in
    elim c.if-is_none.branch [
      | then-is_none z ↦ rw z.m-is (looked_not _ _ _ _ _ _ w (omega (arith, l, n)) _)
      | else-is_none z ↦ rw z.m-is (looked_told _ _ _ _ _ _ w (omega (arith, l, n)) _ _ _ c.wide-h.ensures.0
          c.bucket-k.ensures.0 (held _ _ _ c.probe_near-told.ensures c.unwrap_or.ensures c.is_none.ensures z.if-is_none.false))
    ]

pub returns : goal.returns
returns c = let l = c.loop-j in looked_upto _ _ _ _ _ _ _ l.invariant _ c.loop-j-test.false l.auto.j-end
