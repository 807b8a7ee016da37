use native.Mathlib.Omega.{arith}
use Rattle.layout.specs.declared.Edition.TheVariants.{Bits64}
use Rattle.nodes.proofs.Climbs.{climb_skip, climb_more, climb_falls, climb_whole}
use Rattle.nodes.proofs.node.rising.Goals as goal
use Rattle.nodes.proofs.node.rising.Goals.{then-name-ne0+else-name-last, else-name-ne0}

pub returns-then-name-last : goal.returns-then-name-last
returns-then-name-last c = climb_falls Bits64 _ _ _ _ c.loop-i.invariant _ c.node_name-name.ensures.0 _ c.loop-i-test.true c.if-name-ne0.true c.if-name-last.true

pub loop-i-preserved : goal.loop-i-preserved
loop-i-preserved c = let h = c.loop-i.invariant in
    let e = c.node_name-name.ensures.0 in
    elim c.if-name-ne0.branch [ then-name-ne0+else-name-last w ↦ rw w.last-is (climb_more Bits64 _ _ _ _ h _ e w.if-name-last.false) | else-name-ne0 w ↦ rw w.last-is (climb_skip Bits64 _ _ _ _ h _ e w.if-name-ne0.false) ]

pub returns : goal.returns
returns c = climb_whole Bits64 _ _ _ _ _ (omega arith) c.loop-i.invariant
