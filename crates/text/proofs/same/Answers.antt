use mathlib.Core.Path.{refl, sym, ◌∙◌}
use Rattle.verdict.proofs.Laws.{tells_yes, tells_no}
use Rattle.text.proofs.Walk.{text-start, text_shut, text_next, char_here, char_end, char_next, char_head, same_start, same_next, same_end}
use native.Mathlib.Omega.{arith}
use Rattle.text.proofs.same.Goals as goal

pub loop-i-init : goal.loop-i-init
loop-i-init c = same_start (text-start _ _ _) (text-start _ _ _)

pub returns-then-char_or_end-c : goal.returns-then-char_or_end-c
returns-then-char_or_end-c c = tells_no
    (λ e. c.if-char_or_end-c.true
    (sym (char_head _ _ _ _ _ c.char_or_end.ensures _ refl)
    ∙ char_head _ _ _ _ _ (char_here _ _ _ _ _ c.loop-i-test.true c.u16_at-c.ensures) _ (c.loop-i.invariant.0 e)))

pub returns-then-c-eq0 : goal.returns-then-c-eq0
returns-then-c-eq0 c = tells_yes
    (c.loop-i.invariant.1
    (text_shut _ _ _ _ _ c.loop-i-test.true c.u16_at-c.ensures.0 c.if-c-eq0.true
    ∙ sym (char_end _ _ _ _ _ c.char_or_end.ensures (c.if-char_or_end-c.false ∙ c.if-c-eq0.true))))

pub loop-i-preserved : goal.loop-i-preserved
loop-i-preserved c = let z = c.if-c-eq0.false in
    let d = c.if-char_or_end-c.false in
    same_next c.loop-i.invariant (text_next _ _ _ _ _ c.loop-i-test.true c.u16_at-c.ensures.0 z)
    (char_next _ _ _ _ _ c.char_or_end.ensures (λ w. z (sym d ∙ w))) (sym d)

pub returns : goal.returns
returns c = same_end _ _ _ _ _ _ _ (omega arith) c.loop-i.invariant c.char_or_end-2.ensures
