use Prim.Native.Nat.{◌+◌, ◌*◌}
use mathlib.Core.Path.{◌≡◌, ap, ◌∙◌}
use borrow.Author.Count.{below_none, below_more}
use Rattle.le.specs.Le.{u16_at}
use Rattle.verdict.proofs.Laws.{tells_yes, tells_no}
use Rattle.text.proofs.Laws.{zero_held, zero-nowhere}
use native.Mathlib.Omega.{arith}
use Rattle.text.proofs.holds_zero.Goals as goal

pub loop-i-init : goal.loop-i-init
loop-i-init c = below_none _

pub returns-then-u16_at-eq0 : goal.returns-then-u16_at-eq0
returns-then-u16_at-eq0 c = let e : 2 * c.loop-i.i ≡ 0 + 2 * c.loop-i.i = omega arith in
    tells_yes (zero_held _ _ _ _ _ c.loop-i-test.true (c.u16_at.ensures.0 ∙ ap (u16_at c.args.s.now) e) c.if-u16_at-eq0.true)

pub loop-i-preserved : goal.loop-i-preserved
loop-i-preserved c = below_more _ _ c.loop-i.invariant (λ z. c.if-u16_at-eq0.false (c.u16_at.ensures.0 ∙ z))

pub returns : goal.returns
returns c = tells_no (zero-nowhere _ _ _ (λ j l z. let e : 2 * j ≡ 0 + 2 * j = omega arith in c.loop-i.invariant j (omega (arith, l, c.loop-i-test.false)) (ap (u16_at c.args.s.now) e ∙ z)))
