use Prim.Native.Nat.{◌+◌, ◌*◌}
use mathlib.Core.Path.{◌≡◌, refl, sym, ap, ◌∙◌}
use Rattle.le.specs.Le.{u16_at}
use Rattle.verdict.proofs.Laws.{tells_no}
use Rattle.text.proofs.Walk.{chars_start, chars_next, text-start, char_end, char_next, char_head, same_start, same_next, none-some, borne_end}
use native.Mathlib.Omega.{arith}
use Rattle.text.proofs.bears.Goals as goal

pub loop-i-init : goal.loop-i-init
loop-i-init c = same_start (text-start _ _ _) (chars_start _ _ _)

pub returns-then-c-eq0 : goal.returns-then-c-eq0
returns-then-c-eq0 c = tells_no
    (λ e. none-some
    (char_end _ _ _ _ _ c.char_or_end-c.ensures c.if-c-eq0.true)
    (chars_next _ _ _ _ _ c.loop-i-test.true refl)
    (c.loop-i.invariant.0 e))

pub returns-then-c-u16_at : goal.returns-then-c-u16_at
returns-then-c-u16_at c = let w = c.loop-i.invariant.0 in
    let d : 2 * c.loop-i.i ≡ 0 + 2 * c.loop-i.i = omega arith in
    let t = chars_next _ _ _ _ _ c.loop-i-test.true (c.u16_at.ensures.0 ∙ ap (u16_at c.args.s.now) d) in
    tells_no (λ e. c.if-c-u16_at.true (sym (char_head _ _ _ _ _ c.char_or_end-c.ensures _ (w e ∙ t))))

pub loop-i-preserved : goal.loop-i-preserved
loop-i-preserved c = let w = c.loop-i.invariant in
    let d : 2 * c.loop-i.i ≡ 0 + 2 * c.loop-i.i = omega arith in
    let t = chars_next _ _ _ _ _ c.loop-i-test.true (c.u16_at.ensures.0 ∙ ap (u16_at c.args.s.now) d) in
    let u = char_next _ _ _ _ _ c.char_or_end-c.ensures c.if-c-eq0.false in
    same_next w u t c.if-c-u16_at.false

pub returns : goal.returns
returns c = borne_end _ _ _ _ _ _ _ _ (omega arith) c.loop-i.invariant c.char_or_end.ensures
