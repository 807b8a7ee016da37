use Rattle.layout.specs.declared.Edition.TheVariants.{Bits64}
use Rattle.words.specs.declared.AttributeType.TheVariants.{Text}
use Rattle.words.proofs.Numbers.{same-number}
use Rattle.nodes.proofs.Attributes.{Above, before_in, name_falls, name_rises, name-first, right_other, right-value}
use Rattle.nodes.proofs.attribute.attribute_right.Goals as goal
use Rattle.nodes.proofs.attribute.attribute_right.Goals.{Joined-i-gt0, then-i-gt0+else-name-attribute_name, else-i-gt0}

pub overflow_sub-q : goal.overflow_sub-q
overflow_sub-q c = before_in Bits64 _ _ _ _ c.requires.1 c.if-i-gt0.true

pub returns-then-name-attribute_name : goal.returns-then-name-attribute_name
returns-then-name-attribute_name c = name_falls Bits64 _ _ c.requires.0 _ _ _ c.requires.1 _ c.attribute_name-name.ensures.0 c.if-i-gt0.true _ c.attribute_name.ensures.0 c.if-name-attribute_name.true

-- the name is above that of the attribute before
above : (c : Joined-i-gt0) → let a = c.args in Above Bits64 a.b.now a.p a.i
above c = let p = c.requires in
    let u = c.attribute_name-name.ensures.0 in
    elim c.if-i-gt0.branch [ then-i-gt0+else-name-attribute_name w ↦ name_rises Bits64 _ _ p.0 _ _ _ p.1 _ u w.if-i-gt0.true _ w.attribute_name.ensures.0 w.if-name-attribute_name.false | else-i-gt0 w ↦ name-first Bits64 _ _ p.0 _ _ _ p.1 _ u w.if-i-gt0.false ]

pub returns-then-name-names-2 : goal.returns-then-name-names-2
returns-then-name-names-2 c = let p = c.requires in
    let u = c.attribute_name-name.ensures.0 in
    right_other Bits64 _ _ p.0 _ _ _ p.1 _ u c.if-name-eq0.false c.if-name-names.false (above (goal.at.returns-then-name-names-2 c).Joined-i-gt0) (c.typed.ensures.so c.if-not-typed.false) c.if-name-names-2.true

pub returns : goal.returns
returns c = let p = c.requires in
    let u = c.attribute_name-name.ensures.0 in
    rw (c.eq.ensures, same-number c.kind.result Text)
    (right-value Bits64 _ _ p.0 _ _ _ p.1 _ u c.if-name-eq0.false c.if-name-names.false (above (goal.at.returns c).Joined-i-gt0) (c.typed.ensures.so c.if-not-typed.false) c.if-name-names-2.false _ _ c.type_word.ensures.0 c.kind.ensures)
