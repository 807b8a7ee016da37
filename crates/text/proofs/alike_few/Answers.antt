use mathlib.Core.Path.{sym, ◌∙◌}
use Rattle.verdict.proofs.Laws.{tells_yes, tells_no}
use Rattle.text.proofs.OneByOne.{alike-chars, chars-alike, alike-none, alike_more, alike-upto}
use Rattle.text.proofs.alike_few.Goals as goal

pub loop-i-init : goal.loop-i-init
loop-i-init c = alike-none _ _ _ _ 0

pub returns-then-u16_at : goal.returns-then-u16_at
returns-then-u16_at c = tells_no
    (λ e. c.if-u16_at.true (c.u16_at.ensures.0 ∙ chars-alike _ _ _ _ _ e _ c.loop-i-test.true ∙ sym c.u16_at-in-loop-i.ensures.0))

pub loop-i-preserved : goal.loop-i-preserved
loop-i-preserved c = alike_more _ _ _ _ 0 _ c.loop-i.invariant (sym c.u16_at.ensures.0 ∙ c.if-u16_at.false ∙ c.u16_at-in-loop-i.ensures.0)

pub returns : goal.returns
returns c = tells_yes (alike-chars _ _ _ _ _ (alike-upto _ _ _ _ _ _ c.loop-i-test.false c.loop-i.invariant))
