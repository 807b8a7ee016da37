use mathlib.Core.Path.{◌≡◌}
use Rattle.region.specs.Region.{range_at}
use Rattle.layout.specs.Edition.{attribute_size}
use Rattle.layout.specs.Layout.{attributes_at}
use Rattle.layout.specs.declared.Edition.TheVariants.{Bits64}
use Rattle.nodes.specs.Node.{attribute_segment, attribute_element, attribute_count}
use Rattle.nodes.specs.inner.Doubts.{Trusted}
use Rattle.nodes.proofs.Ways.{attribute-count, attributes_sought, attributes_fit, attributes_start, attributes-known, range_none, range-nowhere, range-told}
use Rattle.nodes.proofs.node.check_attribute_range.Goals as goal
use Rattle.nodes.proofs.node.check_attribute_range.Goals.{After-attribute_field-n, After-range_at-r}

count : (c : After-attribute_field-n) → c.attribute_field-n.result ≡ attribute_count c.args.prepared.now.file.now c.args.x
count c = attribute-count _ _ c.requires.node.1 _ c.attribute_field-n.ensures.0

range : (c : After-range_at-r)
    → let b = c.args.prepared.now.file.now in
    let x = c.args.x in
    c.range_at-r.result ≡ range_at (attribute_size Bits64) b (attributes_at b) (attribute_segment b x) (attribute_element b x) c.attribute_field-n.result
range c = attributes_sought Bits64 _ _ _ _ c.args.prepared.now.ready.placed.attributes _ _ c.attribute_segment.ensures.0 c.attribute_element.ensures.0 _ c.range_at-r.ensures

pub returns-then-n-eq0-clause-answer : goal.returns-then-n-eq0-clause-answer
returns-then-n-eq0-clause-answer c = range_none Bits64 _ _ _ (count (goal.at.returns-then-n-eq0-clause-answer c).After-attribute_field-n) c.if-n-eq0.true

pub check_attributes-requires : goal.check_attributes-requires
check_attributes-requires c = let n = count (goal.at.check_attributes-requires c).After-attribute_field-n in
    let f = range (goal.at.check_attributes-requires c).After-range_at-r in
    let e = c.in-Some.is in
    let y = c.args.prepared.now.ready in
    rw c.values.ensures record {
      attributes = (y.known, n, attributes_start Bits64 _ _ _ n _ f _ e, attributes_fit Bits64 _ _ _ n _ f _ e y.placed.attributes.laid);
      doubts = (attributes-known Bits64 _ _ _ n _ f _ e (Trusted Bits64 _ _) c.requires.doubts.0, c.requires.doubts.1);
    }

pub returns-clause-answer : goal.returns-clause-answer
returns-clause-answer c = range-told Bits64 _ _ _ (count (goal.at.returns-clause-answer c).After-attribute_field-n) _ (range (goal.at.returns-clause-answer c).After-range_at-r) _ c.in-Some.is _ (rw c.values.ensures at c.check_attributes.ensures.answer)

pub returns-in_default-clause-answer : goal.returns-in_default-clause-answer
returns-in_default-clause-answer c = range-nowhere Bits64 _ _ _ (count (goal.at.returns-in_default-clause-answer c).After-attribute_field-n) _ (range (goal.at.returns-in_default-clause-answer c).After-range_at-r) c.if-n-eq0.false c.in_default.is
