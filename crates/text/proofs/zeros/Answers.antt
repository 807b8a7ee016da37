use mathlib.Core.Path.{◌≡◌, sym, ◌∙◌}
use Rattle.text.proofs.Counted.{zeros_none, zeros_zero, zeros_other}
use native.Mathlib.Omega.{arith}
use Rattle.text.proofs.zeros.Goals as goal
use Rattle.text.proofs.zeros.Goals.{then-u16_at-eq0, else-u16_at-eq0}

pub loop-i-init : goal.loop-i-init
loop-i-init c = (sym (zeros_none _ _), omega arith)

pub loop-i-preserved : goal.loop-i-preserved
loop-i-preserved c = let w = c.loop-i.invariant in
    let s = c.args in
    let r = c.u16_at.ensures.0 in
    elim c.if-u16_at-eq0.branch [
      | then-u16_at-eq0 z ↦ rw z.found-is (omega (arith, zeros_zero s.b.now s.p c.loop-i.i (sym r ∙ z.if-u16_at-eq0.true)), omega arith)
      | else-u16_at-eq0 z ↦ rw z.found-is (omega (arith, zeros_other s.b.now s.p c.loop-i.i (λ e. z.if-u16_at-eq0.false (r ∙ e))), omega arith)
    ]

pub returns : goal.returns
returns c = let e : c.loop-i.i ≡ c.args.n = omega arith in rw (c.from.ensures, ← e) c.loop-i.invariant
