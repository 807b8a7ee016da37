use mathlib.Core.Path.{◌≡◌, refl, sym, ◌∙◌}
use Rattle.nodes.specs.Node.{child_count}
use Rattle.nodes.proofs.Ways.{nameless_children, child-count, live-node}
use Rattle.tree.proofs.Children.{no_children, found-range, children-at}
use Rattle.tree.proofs.ranges.children_of.Goals as goal
use Rattle.tree.proofs.ranges.children_of.Goals.{After-child_field-count}

-- the count read is the node's
counted : (c : After-child_field-count)
    → c.child_field-count.result ≡ child_count c.args.nodes.now.file.now c.args.p
counted c = child-count _ _ (live-node _ _ _ c.node_name.ensures.0 c.if-node_name-eq0.false) _ c.child_field-count.ensures.0

pub returns-then-node_name-eq0 : goal.returns-then-node_name-eq0
returns-then-node_name-eq0 c = no_children c.args.nodes.now.ready _ c.child_segment-seg.ensures c.child_element-el.ensures
    (sym (nameless_children _ _ (sym c.node_name.ensures.0 ∙ c.if-node_name-eq0.true)))
    refl

pub returns-then-count-eq0 : goal.returns-then-count-eq0
returns-then-count-eq0 c = no_children c.args.nodes.now.ready _ c.child_segment-seg.ensures c.child_element-el.ensures (sym c.if-count-eq0.true ∙ counted (goal.at.returns-then-count-eq0 c).After-child_field-count) refl

pub returns-in_default : goal.returns-in_default
returns-in_default c = absurd
    (found-range c.args.nodes.now.ready _ c.child_segment-seg.ensures c.child_element-el.ensures (counted (goal.at.returns-in_default c).After-child_field-count) c.requires.0 c.if-count-eq0.false
    (sym c.range_at.ensures ∙ c.in_default.is))

pub returns : goal.returns
returns c = children-at c.args.nodes.now.ready _ c.child_segment-seg.ensures c.child_element-el.ensures (counted (goal.at.returns c).After-child_field-count) c.child_field-count.ensures.1
    (sym c.range_at.ensures ∙ c.in-Some.is)
