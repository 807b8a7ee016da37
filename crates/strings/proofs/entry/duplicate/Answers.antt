use native.Mathlib.Omega.{arith}
use Rattle.verdict.proofs.Laws.{tells_yes, tells_no}
use Rattle.strings.proofs.Differing.{away_alone}
use Rattle.strings.proofs.Runs.{alone_more, alone_none, alone_over, duplicate_found}
use Rattle.strings.proofs.entry.duplicate.Goals as goal

pub loop-i-init : goal.loop-i-init
loop-i-init c = let p = c.requires in away_alone _ _ _ _ p.2 p.1

pub returns-then-hash_at-h : goal.returns-then-hash_at-h
returns-then-hash_at-h c = let p = c.requires in
    tells_no (alone_over _ _ _ p.1 _ _ _ _ (omega arith) (omega (arith, p.2.first)) c.loop-i.invariant c.hash_at-h.ensures c.hash_at.ensures c.if-hash_at-h.true)

pub returns-then-same_text : goal.returns-then-same_text
returns-then-same_text c =
    tells_yes (duplicate_found _ _ _ c.loop-i.i _ (omega arith) (omega (arith, c.requires.2.first)) (c.same_text.ensures.so c.if-same_text.true))

pub loop-i-preserved : goal.loop-i-preserved
loop-i-preserved c = let p = c.requires in
    alone_more _ _ _ _ _ (omega arith) c.loop-i.invariant
    ((c.same_text.ensures.not c.if-same_text.false).texts (p.1.right _ (omega (arith, p.2.first))) (p.1.right _ (omega arith)))

pub returns : goal.returns
returns c = tells_no (alone_none _ _ _ _ (omega arith) c.loop-i.invariant)
