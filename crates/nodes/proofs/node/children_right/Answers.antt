use mathlib.Core.Path.{◌≡◌}
use Rattle.region.specs.Region.{range_at}
use Rattle.layout.specs.Edition.{node_size}
use Rattle.layout.specs.Layout.{nodes_at}
use Rattle.layout.specs.declared.Edition.TheVariants.{Bits64}
use Rattle.nodes.specs.Node.{child_segment, child_element, child_count}
use Rattle.nodes.proofs.Climbs.{children_sought, children-none, children-nowhere, children_fit, children-told}
use Rattle.nodes.proofs.Ways.{child-count}
use Rattle.nodes.proofs.node.children_right.Goals as goal
use Rattle.nodes.proofs.node.children_right.Goals.{After-child_field-n, After-range_at-r}

count : (c : After-child_field-n) → c.child_field-n.result ≡ child_count c.args.prepared.now.file.now c.args.p
count c = child-count _ _ c.requires.1 _ c.child_field-n.ensures.0

range : (c : After-range_at-r)
    → let b = c.args.prepared.now.file.now in
    let p = c.args.p in
    c.range_at-r.result ≡ range_at (node_size Bits64) b (nodes_at Bits64 b) (child_segment Bits64 b p) (child_element Bits64 b p) c.child_field-n.result
range c = children_sought Bits64 _ _ _ _ c.args.prepared.now.ready.placed.nodes _ _ c.child_segment.ensures.0 c.child_element.ensures.0 _ c.range_at-r.ensures

pub returns-then-n-eq0 : goal.returns-then-n-eq0
returns-then-n-eq0 c = children-none Bits64 _ _ _ (count (goal.at.returns-then-n-eq0 c).After-child_field-n) c.if-n-eq0.true

pub rising-requires : goal.rising-requires
rising-requires c = children_fit Bits64 _ _ _ (count (goal.at.rising-requires c).After-child_field-n) _ (range (goal.at.rising-requires c).After-range_at-r) _ c.in-Some.is c.args.prepared.now.ready.placed.nodes.laid

pub returns : goal.returns
returns c = children-told Bits64 _ _ _ (count (goal.at.returns c).After-child_field-n) _ (range (goal.at.returns c).After-range_at-r) _ c.in-Some.is _ c.rising.ensures

pub returns-in_default : goal.returns-in_default
returns-in_default c = children-nowhere Bits64 _ _ _ (count (goal.at.returns-in_default c).After-child_field-n) _ (range (goal.at.returns-in_default c).After-range_at-r) c.if-n-eq0.false c.in_default.is
