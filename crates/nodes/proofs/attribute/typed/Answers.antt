use mathlib.Core.Path.{◌≡◌, sym, ◌∙◌}
use Rattle.words.specs.Words.{type_of}
use Rattle.words.specs.declared.AttributeType.TheVariants.{Whole}
use Rattle.words.proofs.Numbers.{differ, alike, some-type}
use Rattle.nodes.proofs.Types.{code_fits, typed-plain, typed_coded, typed_other, typed_truth}
use Rattle.nodes.proofs.attribute.typed.Goals as goal
use Rattle.nodes.proofs.attribute.typed.Goals.{After-number}

number : (c : After-number) → c.number.result ≡ type_of c.type_word-word.result
number c = c.number.ensures.0 ∙ c.kind-kind.ensures

pub overflow_mul-extended : goal.overflow_mul-extended
overflow_mul-extended c = record { fits = code_fits _ _ c.number.ensures.1 _ c.type_word-word.ensures.1 c.extended-extended.ensures }

pub returns-then-extended-number-eq0 : goal.returns-then-extended-number-eq0
returns-then-extended-number-eq0 c = let p = typed-plain _ _ _ _ c.type_word-word.ensures.0 (number (goal.at.returns-then-extended-number-eq0 c).After-number) _ c.extended-extended.ensures c.number.ensures.1 c.if-extended-number-eq0.true in
    rw (c.ne.ensures, ← some-type c.kind-kind.result, ← c.number.ensures.0) p

pub returns-then-ne : goal.returns-then-ne
returns-then-ne c = typed_coded _ _ _ _ c.type_word-word.ensures.0 (number (goal.at.returns-then-ne c).After-number) _ c.extended-extended.ensures c.if-extended-number-eq0.false
    (λ h. differ _ Whole c.ne-2.ensures c.if-ne.true (sym c.number.ensures.0 ∙ h))

pub returns-then-extended-ne1 : goal.returns-then-extended-ne1
returns-then-extended-ne1 c = typed_other _ _ _ _ c.type_word-word.ensures.0 (number (goal.at.returns-then-extended-ne1 c).After-number) _ c.extended-extended.ensures c.if-extended-number-eq0.false c.if-extended-ne1.true

pub returns : goal.returns
returns c = typed_truth _ _ _ _ c.type_word-word.ensures.0 (number (goal.at.returns c).After-number) _ c.extended-extended.ensures (c.number.ensures.0 ∙ alike _ Whole c.ne-2.ensures c.if-ne.false) c.if-extended-ne1.false _ c.value_word.ensures.0
