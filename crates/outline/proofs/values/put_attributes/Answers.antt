use Prim.Native.Nat.{◌+◌, ◌*◌, ◌≤◌}
use native.Mathlib.Omega.{arith}
use mathlib.Core.Path.{sym, ap, ◌∙◌}
use Rattle.layout.specs.Edition.{attribute_size}
use Rattle.layout.specs.declared.Edition.TheVariants.{Bits64}
use Rattle.nodes.proofs.Sought.{lent}
use Rattle.tree.specs.Chain.{ranged}
use Rattle.tree.proofs.Ranged.{ranged-none}
use Rattle.print.proofs.Puts.{left_start, left_more, left_end, put_none, put_same}
use Rattle.outline.proofs.Rules.{rules_of}
use Rattle.outline.proofs.Written.{ranged_start, ranged_next, ranged-past}
use Rattle.outline.proofs.Parts.{attributes-count, attributes_there, attributes-at, attribute_ready, attribute-text}
use Rattle.outline.proofs.values.put_attributes.Goals as goal
use Rattle.outline.proofs.values.put_attributes.Goals.{In-loop-i}

-- the attribute lies in the file
there : (c : In-loop-i) → c.unwrap-q.result + c.loop-i.i * attribute_size Bits64 + attribute_size Bits64 ≤ 1073741824
there c =
    let l = c.loop-i in
    omega (arith, (attribute_ready l.invariant.0 l.i (omega arith) c.requires).fits, (rules_of c.args.source.now).laid.small)

pub returns-then-n-eq0 : goal.returns-then-n-eq0
returns-then-n-eq0 c = put_same (sym (ranged-none _ 0 _ (sym (attributes-count c.requires c.attribute_field-n.ensures.0) ∙ c.if-n-eq0.true))) (put_none _ _ (omega arith))

pub range_at-requires : goal.range_at-requires
range_at-requires c = let s = c.args.source.now in
    record { mapped = lent s.placed.attributes s.attributes; el_bound = (c.attribute_element-el.ensures.1, c.attribute_field-n.ensures.1) }

pub unwrap-q-requires : goal.unwrap-q-requires
unwrap-q-requires c = attributes_there c.requires c.args.source.now.placed c.attribute_field-n.ensures.0 c.attribute_segment-seg.ensures.0 c.attribute_element-el.ensures.0 c.range_at.ensures c.if-n-eq0.false

-- a buffer's length is a number of 64 bits
pub loop-i-init : goal.loop-i-init
loop-i-init c = let t = attributes-at c.requires c.args.source.now.placed c.attribute_field-n.ensures.0 c.attribute_segment-seg.ensures.0 c.attribute_element-el.ensures.0 c.range_at.ensures c.unwrap-q.ensures in
    (t, left_start (omega arith) (omega arith) (ranged_start _ 0 _ ∙ ap (ranged _ 0) t.count))

pub overflow_mul-i : goal.overflow_mul-i
overflow_mul-i c = omega (arith, there (goal.at.overflow_mul-i c).In-loop-i)

pub overflow_add-q : goal.overflow_add-q
overflow_add-q c = omega (arith, there (goal.at.overflow_add-q c).In-loop-i)

pub put_attribute-e-requires : goal.put_attribute-e-requires
put_attribute-e-requires c = let l = c.loop-i in attribute_ready l.invariant.0 l.i (omega arith) c.requires

pub loop-i-preserved : goal.loop-i-preserved
loop-i-preserved c = let l = c.loop-i in
    (l.invariant.0, left_more l.invariant.1 (put_same (attribute-text l.invariant.0 l.i) c.put_attribute-e.ensures) (ranged_next _ 0 _ l.i (omega arith)))

pub returns : goal.returns
returns c = left_end c.loop-i.invariant.1 (ranged-past _ 0 _ c.loop-i.i (omega arith))
