use mathlib.Core.Path.{refl}
use Rattle.search.proofs.Searches.{near_of, looked_found, looked_end}
use native.Mathlib.Omega.{arith}
use Rattle.search.proofs.pending.find_rest.Goals as goal

pub loop-i-preserved : goal.loop-i-preserved
loop-i-preserved c = let p = c.requires in
    let l = c.loop-i-test.true in
    λ t w f. looked_found _ _ _ _ _ _ _ (c.loop-i.invariant t w f) _ _ l refl (omega (arith, p.2.listed.each _ l, p.1)) (f _ l)

pub returns : goal.returns
returns c = let w = c.loop-i.invariant _ c.requires.2 (λ j l. near_of _ _ _ _ (c.gather.ensures.each j l) (c.find_all.ensures.each j l)) in
    looked_end _ _ _ _ _ _ _ w c.loop-i-test.false
