use native.Mathlib.Omega.{arith}
use mathlib.Core.Path.{sym, ◌∙◌}
use Rattle.nodes.proofs.Noting.{hash-noted, hash-small, short-hash}
use Rattle.nodes.proofs.long.text_hash.Goals as goal

pub returns-then-first-lt64-clause-answer : goal.returns-then-first-lt64-clause-answer
returns-then-first-lt64-clause-answer c = short-hash _ _ _ _ (c.worth.ensures c.if-not-worth.false).0 c.measure-first.ensures c.if-first-lt64.true

pub returns-in-Some-clause-answer : goal.returns-in-Some-clause-answer
returns-in-Some-clause-answer c = let m = c.requires.2 in
    c.recall.ensures.right _ c.in-Some.is _ m ∙ hash-noted _ _ _

pub remember-requires : goal.remember-requires
remember-requires c = let p = c.requires in
    let w = c.worth.ensures c.if-not-worth.false in
    (p.2.long, omega (arith, p.0, p.1), omega (arith, w.1), hash-small _ _ _ _ c.measure-m.ensures.hashed)

pub returns-clause-memo : goal.returns-clause-memo
returns-clause-memo c = let r = c.measure-m.ensures.hashed in
    c.remember.ensures.right _ c.requires.2 (r ∙ sym (hash-noted _ _ _))
