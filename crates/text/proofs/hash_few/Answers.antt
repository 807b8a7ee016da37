use mathlib.Core.Path.{refl}
use Rattle.text.proofs.Words.{hash-none, hash-one, hash-two, three}
use borrow.Author.Rules.{rules}
use Rattle.text.proofs.hash_few.Goals as goal

pub returns-then-k-eq0 : goal.returns-then-k-eq0
returns-then-k-eq0 c = (hash-none _ _ _ _ c.if-k-eq0.true, c.requires.2)

pub returns-then-k-eq1 : goal.returns-then-k-eq1
returns-then-k-eq1 c = let e = c.char_on.ensures in (hash-one _ _ _ _ _ _ c.if-k-eq1.true c.u16_at.ensures.0 e.0, e.1)

pub returns-then-k-eq2 : goal.returns-then-k-eq2
returns-then-k-eq2 c = (
  hash-two _ _ _ _ 0 _ _ _ (λ i. search rules) c.if-k-eq2.true c.u32_at.ensures.0
      c.pair_on-g.ensures.0 (hash-none _ _ _ _ refl),
  c.pair_on-g.ensures.1,
)

pub returns : goal.returns
returns c = let e = c.char_on-2.ensures in
    let n = three _ c.requires.1 c.if-k-eq0.false c.if-k-eq1.false c.if-k-eq2.false in (
      hash-two _ _ _ _ 1 _ _ _ (λ i. search rules) n c.u32_at.ensures.0
          c.pair_on-g.ensures.0 (hash-one _ _ _ _ _ _ refl c.u16_at-2.ensures.0 e.0),
      e.1,
    )
