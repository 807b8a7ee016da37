use native.Mathlib.Omega.{arith}
use mathlib.Core.Path.{refl}
use Rattle.hash.specs.inner.Tables.{Entries}
use Rattle.hash.specs.Table.{T, entry_of}
use Rattle.hash.proofs.Lent.{filled_first, filled_more, filled-all, next_made}
use Rattle.hash.proofs.HashTables.new.Goals as goal

pub loop-i-init : goal.loop-i-init
unfolding T entry_of
loop-i-init c = let e : Entries T = record { at = λ k h. refl } in
    (rw c.copy_from_slice.ensures.after (filled_first T _ refl refl e), e)

pub loop-i-preserved : goal.loop-i-preserved
loop-i-preserved c = let v = c.loop-i.invariant in
    let e = next_made _ _ _ _ _ v.1 (omega arith) (v.0.at _ (omega arith)) c.wide.ensures.0 c.low.ensures.0 in
    (filled_more _ _ _ (omega arith) e v.0, v.1)

pub invariant_of-result : goal.invariant_of-result
invariant_of-result c = record { made = filled-all _ _ c.loop-i-test.false c.loop-i.invariant.0 }
