use native.Mathlib.Omega.{arith}
use borrow.Author.Count.{below_more}
use Rattle.verdict.proofs.Laws.{tells_no}
use Rattle.layout.specs.Header.{keys_at, key_at}
use Rattle.layout.specs.declared.Edition.TheVariants.{Bits64}
use Rattle.layout.proofs.Laws.{key_fits}
use Rattle.keys.proofs.Laws.{not-zero, too_high, is_value, name-right}
use Rattle.keys.proofs.list.key_right.Goals as goal
use Rattle.keys.proofs.list.key_right.Goals.{else-k-eq0-via-then-k-eq0+else-name-ne0, else-k-eq0-via-else-k-eq0}

pub u16_at-name-requires : goal.u16_at-name-requires
unfolding key_at keys_at
u16_at-name-requires c = omega (arith, key_fits Bits64 _ c.requires.0 _ c.requires.2)

pub returns-then-name-ne0 : goal.returns-then-name-ne0
returns-then-name-ne0 c = tells_no (λ r. not-zero Bits64 _ _ c.requires.1 _ _ _ c.u16_at-name.ensures.0 c.if-k-eq0.true c.if-name-ne0.true (r _ c.loop-f-test.true))

pub returns-then-name-names : goal.returns-then-name-names
returns-then-name-names c = tells_no (λ r. too_high Bits64 _ _ c.requires.1 _ _ _ c.u16_at-name.ensures.0 c.if-name-names.true (r _ c.loop-f-test.true))

pub returns-then-name-names-2 : goal.returns-then-name-names-2
returns-then-name-names-2 c = tells_no (λ r. is_value Bits64 _ _ c.requires.1 _ _ _ c.u16_at-name.ensures.0 c.if-name-names-2.true (r _ c.loop-f-test.true))

pub loop-f-preserved : goal.loop-f-preserved
loop-f-preserved c = below_more _ _ c.loop-f.invariant
    (name-right Bits64 _ _ c.requires.1 _ _ _ c.u16_at-name.ensures.0
    (λ z. elim c.else-k-eq0.branch [
      | else-k-eq0-via-then-k-eq0+else-name-ne0 w ↦ w.if-name-ne0.false
      | else-k-eq0-via-else-k-eq0 w ↦ absurd (w.if-k-eq0.false z)
    ]) c.if-name-names.false c.if-name-names-2.false)
