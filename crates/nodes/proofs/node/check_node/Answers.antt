use Prim.Native.Nat.{◌+◌, ◌≤◌}
use native.Mathlib.Omega.{arith}
use lib.ListN.{length}
use Rattle.layout.specs.Edition.{node_size}
use Rattle.layout.specs.declared.Edition.TheVariants.{Bits64}
use Rattle.nodes.specs.Node.{Live}
use Rattle.nodes.specs.Rules.{NodeRule}
use Rattle.std.proofs.lemmas.Result.{err_from_is_err_and}
use Rattle.verdict.proofs.Gives.{clean_of, refused_of}
use Rattle.nodes.proofs.Ways.{node-fits, live-node, refused_16, refused-range, refused_23, node_passes, nameless_passes}
use Rattle.nodes.proofs.node.check_node.Goals as goal
use Rattle.nodes.proofs.node.check_node.Goals.{Else-node_name-eq0, Else-not-node_right, Start}

fits : (c : Start) → c.args.x + node_size Bits64 ≤ length c.args.prepared.now.file.now
fits c = node-fits Bits64 _ _ _ _ c.args.prepared.now.ready.laid.nodes c.requires.node.0 c.requires.node.1

rule : (c : Else-not-node_right) → NodeRule Bits64 c.args.prepared.now.file.now c.args.seg c.args.el
rule c = c.node_right.ensures.so c.if-not-node_right.false

live : (c : Else-node_name-eq0) → Live c.args.prepared.now.file.now c.args.x
live c = live-node _ _ _ c.node_name.ensures.0 c.if-node_name-eq0.false

pub node_right-requires : goal.node_right-requires
node_right-requires c = (c.args.prepared.now.ready.known, c.args.prepared.now.ready.placed.keys, c.requires.node.1, fits (goal.at.node_right-requires c).Start)

pub returns-then-not-node_right-clause-answer : goal.returns-then-not-node_right-clause-answer
returns-then-not-node_right-clause-answer c = refused_16 Bits64 _ _ _ _ c.requires.node.1 (c.node_right.ensures.not c.if-not-node_right.true)

pub node_name-requires : goal.node_name-requires
node_name-requires c = omega (arith, fits (goal.at.node_name-requires c).Start)

pub returns-then-node_name-eq0-clause-answer : goal.returns-then-node_name-eq0-clause-answer
returns-then-node_name-eq0-clause-answer c = nameless_passes Bits64 _ _ _ _ c.requires.node.1 (rule (goal.at.returns-then-node_name-eq0-clause-answer c).Else-not-node_right) _ c.node_name.ensures.0 c.if-node_name-eq0.true

pub check_attribute_range-requires-clause-node : goal.check_attribute_range-requires-clause-node
check_attribute_range-requires-clause-node c = (fits (goal.at.check_attribute_range-requires-clause-node c).Start, live (goal.at.check_attribute_range-requires-clause-node c).Else-node_name-eq0)

pub returns-in_err-check_attribute_range-clause-answer : goal.returns-in_err-check_attribute_range-clause-answer
returns-in_err-check_attribute_range-clause-answer c = let e = err_from_is_err_and c.from_residual.result c.from_residual.ensures.1 in
    rw (e.1, e.2) (refused-range Bits64 _ _ _ _ c.requires.node.1 (rule (goal.at.returns-in_err-check_attribute_range-clause-answer c).Else-not-node_right) (refused_of c.check_attribute_range.ensures.answer c.in_err-check_attribute_range.was))

pub children_right-requires : goal.children_right-requires
children_right-requires c = (fits (goal.at.children_right-requires c).Start, live (goal.at.children_right-requires c).Else-node_name-eq0)

pub returns-then-not-children_right-clause-answer : goal.returns-then-not-children_right-clause-answer
returns-then-not-children_right-clause-answer c = refused_23 Bits64 _ _ _ _ c.requires.node.1 (rule (goal.at.returns-then-not-children_right-clause-answer c).Else-not-node_right) (clean_of c.check_attribute_range.ensures.answer c.in_ok-check_attribute_range.was) (c.children_right.ensures.not c.if-not-children_right.true)

pub returns-clause-answer : goal.returns-clause-answer
returns-clause-answer c = node_passes Bits64 _ _ _ _ c.requires.node.1 (rule (goal.at.returns-clause-answer c).Else-not-node_right) (clean_of c.check_attribute_range.ensures.answer c.in_ok-check_attribute_range.was) (c.children_right.ensures.so c.if-not-children_right.false)
