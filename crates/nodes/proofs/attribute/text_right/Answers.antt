use Rattle.strings.specs.Texts.{spot_at}
use Rattle.nodes.specs.Attribute.{text_segment, text_element}
use Rattle.nodes.proofs.Addresses.{text_sought, text-nowhere, text_differs, text-told, spot-fits}
use Rattle.strings.proofs.Accepted.{strings_parts}
use mathlib.Core.Path.{◌≡◌, refl}
use Rattle.search.proofs.Halves.{halved_lower}
use native.Mathlib.Omega.{arith}
use Rattle.layout.specs.declared.Edition.TheVariants.{Bits64}
use Rattle.words.specs.declared.AttributeType.TheVariants.{Text}
use Rattle.words.proofs.Numbers.{alike}
use Rattle.nodes.proofs.attribute.text_right.Goals as goal
use Rattle.nodes.proofs.attribute.text_right.Goals.{After-spot_at}

-- the spot found is that of the attribute's text
sought : (c : After-spot_at)
    → let t = c.args.values.now.checked.table in
    c.spot_at.result ≡ spot_at t.file.now t.parts.chars.at (text_segment t.file.now c.args.q) (text_element t.file.now c.args.q)
sought c = text_sought _ _ _ c.text_segment-seg.ensures.0 c.text_element-el.ensures.0 c.spot_at.ensures

pub returns-in_default-clause-answer : goal.returns-in_default-clause-answer
returns-in_default-clause-answer c = let v = c.args.values.now in
    text-nowhere Bits64 _ _ _ _ c.type_word-word.ensures.0 c.kind.ensures (alike _ Text c.ne.ensures c.if-ne.false) _ v.of_file v.checked.checked (sought (goal.at.returns-in_default-clause-answer c).After-spot_at) c.in_default.is

pub remembered_hash-requires : goal.remembered_hash-requires
remembered_hash-requires c = let h = c.args.values.now.checked.table.held in (spot-fits _ _ _ _ h.laid.characters (sought (goal.at.remembered_hash-requires c).After-spot_at) c.in-Some.is, omega (arith, h.small), c.requires.1)

pub returns-then-extended-remembered_hash-clause-answer : goal.returns-then-extended-remembered_hash-clause-answer
returns-then-extended-remembered_hash-clause-answer c = let v = c.args.values.now in
    text_differs Bits64 _ _ _ _ c.type_word-word.ensures.0 c.kind.ensures (alike _ Text c.ne.ensures c.if-ne.false) _ v.of_file v.checked.checked (sought (goal.at.returns-then-extended-remembered_hash-clause-answer c).After-spot_at) c.in-Some.is _
    c.remembered_hash.ensures.answer _ c.extended.ensures c.if-extended-remembered_hash.true

pub text_hash-h-requires : goal.text_hash-h-requires
text_hash-h-requires c = let h = c.args.values.now.checked.table.held in (spot-fits _ _ _ _ h.laid.characters (sought (goal.at.text_hash-h-requires c).After-spot_at) c.in-Some.is, omega (arith, h.small), c.remembered_hash.ensures.memo)

pub run_has-requires : goal.run_has-requires
run_has-requires c = let k = c.bucket-k.ensures.1 in
    let e = (strings_parts _ c.args.values.now.checked.checked).0 in
    (k, e, halved_lower _ _ _ _ e k c.lower_bound-low.ensures, omega arith)

pub returns-clause-answer : goal.returns-clause-answer
returns-clause-answer c = let v = c.args.values.now in
    text-told Bits64 _ _ _ _ c.type_word-word.ensures.0 c.kind.ensures (alike _ Text c.ne.ensures c.if-ne.false) _ v.of_file v.checked.checked (sought (goal.at.returns-clause-answer c).After-spot_at) c.in-Some.is _
    c.remembered_hash.ensures.answer _ c.extended.ensures c.value_word-address.ensures.2 refl c.if-extended-remembered_hash.false _ c.text_hash-h.ensures.answer _
    c.bucket-k.ensures _ c.value_word-address.ensures.0 c.run_has.ensures
