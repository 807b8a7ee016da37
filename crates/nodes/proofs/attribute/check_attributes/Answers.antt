use native.Mathlib.Omega.{arith}
use mathlib.Core.Path.{sym, subst, ◌∙◌}
use Rattle.layout.specs.declared.Edition.TheVariants.{Bits64}
use Rattle.nodes.specs.inner.Doubts.{Trusted}
use Rattle.nodes.proofs.Attributes.{attribute_is, attributes_start, attributes-none, attributes_more, refused_18, refused_19}
use Rattle.nodes.proofs.attribute.check_attributes.Goals as goal

pub loop-i-init : goal.loop-i-init
loop-i-init c = (attributes_start Bits64 _ _, c.requires.doubts.1)

pub attribute_right-requires : goal.attribute_right-requires
attribute_right-requires c = (c.requires.attributes.0, attribute_is Bits64 _ _ _ _ c.requires.attributes.2, omega arith)

pub returns-then-not-attribute_right-clause-answer : goal.returns-then-not-attribute_right-clause-answer
returns-then-not-attribute_right-clause-answer c = let i = c.loop-i.invariant in
    let p = c.requires.attributes in
    sym (i.0 ∙ refused_18 Bits64 _ _ _ _ p.1 c.loop-i-test.true _ (attribute_is Bits64 _ _ _ _ p.2) (c.attribute_right.ensures.not c.if-not-attribute_right.true))

pub text_passes-requires : goal.text_passes-requires
text_passes-requires c = (omega arith, subst (Trusted Bits64 _ _) (sym (attribute_is Bits64 _ _ _ _ c.requires.attributes.2)) (c.requires.doubts.0 _ c.loop-i-test.true), c.loop-i.invariant.1)

pub returns-then-not-text_passes-clause-answer : goal.returns-then-not-text_passes-clause-answer
returns-then-not-text_passes-clause-answer c = let p = c.requires.attributes in
    sym (c.loop-i.invariant.0 ∙ refused_19 Bits64 _ _ _ _ p.1 c.loop-i-test.true _ (attribute_is Bits64 _ _ _ _ p.2) (c.attribute_right.ensures.so c.if-not-attribute_right.false) (c.text_passes.ensures.answer.not c.if-not-text_passes.true))

pub loop-i-preserved : goal.loop-i-preserved
loop-i-preserved c = let p = c.requires.attributes in
    (c.loop-i.invariant.0 ∙ attributes_more Bits64 _ _ _ _ p.1 c.loop-i-test.true _ (attribute_is Bits64 _ _ _ _ p.2) (c.attribute_right.ensures.so c.if-not-attribute_right.false) (c.text_passes.ensures.answer.so c.if-not-text_passes.false), c.text_passes.ensures.memo)

pub returns-clause-answer : goal.returns-clause-answer
returns-clause-answer c = let i = c.loop-i.invariant in
    sym (i.0 ∙ attributes-none Bits64 _ _ _ _ c.requires.attributes.1 c.loop-i-test.false)
