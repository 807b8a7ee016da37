use native.Mathlib.Omega.{arith}
use Rattle.layout.specs.declared.Edition.TheVariants.{Bits64}
use Rattle.tree.proofs.Outcomes.{root-place}
use Rattle.outline.proofs.Answers.{root-used, root_live, length-told, too_long, all_written}
use Rattle.outline.proofs.Rules.{rules_of}
use Rattle.outline.proofs.write_outline.Goals as goal

pub root_at-root-requires : goal.root_at-root-requires
root_at-root-requires c = let m = c.args.source.now.placed.nodes in omega (arith, m.at_is, m.short, m.laid.head)

pub write_node-n-requires : goal.write_node-n-requires
write_node-n-requires c = let s = c.args.source.now in
    let e = root-place Bits64 _ _ _ c.root_at-root.ensures s.placed.nodes.at_is in
    (root-used (rules_of s), e, root_live (rules_of s) e, omega arith)

pub returns-then-out-n : goal.returns-then-out-n
returns-then-out-n c = let r = rules_of c.args.source.now in
    let both = too_long r _ (length-told r c.write_node-n.ensures) c.if-out-n.true in record { answer = both.0; buffer = both.1 }

pub write_node-requires : goal.write_node-requires
write_node-requires c = let s = c.args.source.now in
    let e = root-place Bits64 _ _ _ c.root_at-root.ensures s.placed.nodes.at_is in
    (root-used (rules_of s), e, root_live (rules_of s) e, omega arith)

pub returns : goal.returns
returns c = let r = rules_of c.args.source.now in
    let both = all_written r _ (length-told r c.write_node-n.ensures) (omega (arith, c.if-out-n.false)) c.write_node.ensures in record { answer = both.0; buffer = both.1 }
