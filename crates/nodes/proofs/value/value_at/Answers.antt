use native.Mathlib.Omega.{arith}
use mathlib.Core.Path.{ap, ◌∙◌}
use mathlib.Core.Logic.{⊎_elim}
use mir.Facts.{to_z-of_z}
use mir.Syntax.{w32}
use borrow.Author.Rules.{sfits_of}
use Rattle.words.specs.Words.{type_number}
use Rattle.nodes.specs.declared.value.Value.TheVariants.{Whole, Float}
use Rattle.nodes.proofs.Values.{signed_is, value-whole, value_truth, value_float, value-text}
use Rattle.nodes.proofs.value.value_at.Goals as goal

pub returns-then-extended-eq0 : goal.returns-then-extended-eq0
returns-then-extended-eq0 c = ap Whole (to_z-of_z {w = w32} (sfits_of c.cast_signed.type_inv) ∙ c.cast_signed.ensures ∙ signed_is _)
    ∙ value-whole _ _ _ _ c.type_word-word.ensures.0 c.kind.ensures (ap type_number c.in-Whole.is) _ c.extended.ensures _ c.value_word-w.ensures.0 c.if-extended-eq0.true

pub returns-else-extended-eq0 : goal.returns-else-extended-eq0
returns-else-extended-eq0 c = value_truth _ _ _ _ c.type_word-word.ensures.0 c.kind.ensures (ap type_number c.in-Whole.is) _ c.extended.ensures _ c.value_word-w.ensures.0 c.if-extended-eq0.false

pub returns-in-Float : goal.returns-in-Float
returns-in-Float c = let n = ap type_number c.in-Float.is in
    ap Float c.single.ensures ∙ value_float _ _ _ _ c.type_word-word.ensures.0 c.kind.ensures (λ h. omega (arith, h, n)) n _ c.value_word.ensures.0

pub returns-in-None : goal.returns-in-None
returns-in-None c = value-text _ _ _ _ c.type_word-word.ensures.0 c.kind.ensures
    (λ h. ⊎_elim (λ e. let n = ap type_number e in omega (arith, h, n)) (λ e. let n = ap type_number e in omega (arith, h, n)) c.in-None.is)
    (λ h. ⊎_elim (λ e. let n = ap type_number e in omega (arith, h, n)) (λ e. let n = ap type_number e in omega (arith, h, n)) c.in-None.is)
    _ _ c.text_segment.ensures.0 c.text_element.ensures.0
