use Rattle.strings.proofs.Places.{hash_at}
use Rattle.search.proofs.Nearby.{counting_start, counting_one, counting_other, counting_end, few-read, few-min}
use mathlib.Core.Path.{◌∙◌}
use native.Mathlib.Omega.{arith}
use Rattle.search.proofs.near.count_few.Goals as goal
use Rattle.search.proofs.near.count_few.Goals.{then-hash-h, else-hash-h}

pub loop-i-init : goal.loop-i-init
loop-i-init c = counting_start _ _

pub loop-i-preserved : goal.loop-i-preserved
loop-i-preserved c = let i = c.loop-i.invariant in
    let x = few-read _ _ _ _ _ _ _ c.requires.1 c.min.ensures (hash_at _ _ _ _ _ c.entry_at-e.ensures.0 c.hash.ensures.0) in
    elim c.if-hash-h.branch [
      | then-hash-h w ↦ rw w.c-is (counting_one _ _ _ _ i _ x w.if-hash-h.true)
      | else-hash-h w ↦ rw w.c-is (counting_other _ _ _ _ i _ x w.if-hash-h.false)
    ]

pub returns : goal.returns
returns c = (c.min-2.ensures ∙ few-min _ _ _ _ (counting_end _ _ _ _ c.loop-i.invariant _ (omega arith)), omega arith)
