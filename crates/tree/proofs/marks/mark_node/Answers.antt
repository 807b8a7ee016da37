use Prim.Native.Nat.{◌+◌, ◌≤◌}
use lib.ListN.{length}
use mathlib.Core.Path.{◌≡◌, sym, ◌∙◌}
use native.Mathlib.Omega.{arith}
use borrow.Author.Rules.{rules}
use Rattle.layout.specs.declared.Edition.TheVariants.{Bits64}
use Rattle.nodes.specs.Node.{child_count}
use Rattle.tree.specs.inner.Marking.{first_number}
use Rattle.nodes.proofs.Ways.{nameless_children, child-count, live-node}
use Rattle.tree.proofs.Fills.{filled}
use Rattle.tree.proofs.OneRange.{marked-none, segment_there, first-number, range_there, marked_now, marked-not}
use Rattle.tree.proofs.marks.mark_node.Goals as goal
use Rattle.tree.proofs.marks.mark_node.Goals.{After-child_field-n, After-number-i}

-- what the code has read: the child count and the first child's number
counted : (c : After-child_field-n) → c.child_field-n.result ≡ child_count c.args.nodes.now.file.now c.args.p
counted c = child-count _ _ (live-node _ _ _ c.node_name.ensures.0 c.if-node_name-eq0.false) _ c.child_field-n.ensures.0

numbered : (c : After-number-i) → c.number-i.result ≡ first_number Bits64 c.args.nodes.now.file.now c.args.p
numbered c =
    first-number Bits64 _ _ _ _ _ _ c.args.nodes.now.ready.nodes.at_is c.child_segment.ensures.0 c.child_element.ensures.0 c.number-i.ensures

-- the range lies in the workspace
fits : (c : After-number-i) → c.child_field-n.result ≡ child_count c.args.nodes.now.file.now c.args.p → c.number-i.result + c.child_field-n.result ≤ length c.args.ws.now
fits c k = range_there Bits64 c.args.nodes.now.file.now c.args.p _ _ c.args.ws.now (numbered c) k c.if-n-eq0.false c.requires.reached c.requires.within.2

pub returns-then-node_name-eq0 : goal.returns-then-node_name-eq0
returns-then-node_name-eq0 c = marked-none Bits64 _ _ _ (nameless_children _ _ (sym c.node_name.ensures.0 ∙ c.if-node_name-eq0.true))

pub returns-then-n-eq0 : goal.returns-then-n-eq0
returns-then-n-eq0 c = marked-none Bits64 _ _ _ (sym (counted (goal.at.returns-then-n-eq0 c).After-child_field-n) ∙ c.if-n-eq0.true)

pub number-i-requires-clause-seg_lt_count : goal.number-i-requires-clause-seg_lt_count
number-i-requires-clause-seg_lt_count c = let seg = segment_there Bits64 c.args.nodes.now.file.now c.args.p _ _ (counted (goal.at.number-i-requires-clause-seg_lt_count c).After-child_field-n) c.child_segment.ensures.0 c.if-n-eq0.false c.requires.reached in
    (omega (arith, c.args.nodes.now.ready.nodes.count_is), search rules)

pub range_free-requires : goal.range_free-requires
range_free-requires c = let p = fits (goal.at.range_free-requires c).After-number-i (counted (goal.at.range_free-requires c).After-child_field-n) in (omega (arith, c.if-n-eq0.false), p)

pub returns-then-not-range_free : goal.returns-then-not-range_free
returns-then-not-range_free c = marked-not Bits64 _ _ _ _ _ (numbered (goal.at.returns-then-not-range_free c).After-number-i) (counted (goal.at.returns-then-not-range_free c).After-child_field-n) c.range_free.ensures c.if-not-range_free.true

pub overflow_add-i : goal.overflow_add-i
overflow_add-i c = let h = fits (goal.at.overflow_add-i c).After-number-i (counted (goal.at.overflow_add-i c).After-child_field-n) in search rules

pub slice_bounds-fill-end : goal.slice_bounds-fill-end
slice_bounds-fill-end c = fits (goal.at.slice_bounds-fill-end c).After-number-i (counted (goal.at.slice_bounds-fill-end c).After-child_field-n)

pub returns : goal.returns
returns c = let e = filled c.args.ws.now c.fill.new.self c.number-i.result _ c.child_field-n.result 1 (omega arith) (search rules) in
    marked_now Bits64 _ _ _ _ _ (numbered (goal.at.returns c).After-number-i) (counted (goal.at.returns c).After-child_field-n) c.range_free.ensures _ c.if-not-range_free.false e
