use borrow.Author.Rules.{rules}
use native.Mathlib.Omega.{arith}
use mathlib.Core.Path.{ap}
use Prim.Native.Nat.{◌≤◌}
use lib.ListN.{length}
use Rattle.std.proofs.lemmas.Result.{err_from_is_err_and}
use Rattle.verdict.specs.Verdict.{answer_of}
use Rattle.layout.specs.declared.Edition.TheVariants.{Bits64}
use Rattle.tree.specs.File.{used_node_count}
use Rattle.tree.proofs.Children.{rules-hold}
use Rattle.tree.proofs.Cleared.{cleared_by}
use Rattle.tree.proofs.Outcomes.{root-place, told-room, told-range, told_deep, told_flat}
use Rattle.tree.proofs.check_tree.Goals as goal
use Rattle.tree.proofs.check_tree.Goals.{Else-ws-used}

-- the workspace has room for the used nodes
room : (c : Else-ws-used) → used_node_count Bits64 c.args.nodes.now.file.now ≤ length c.args.ws.now
room c = omega (arith, c.if-ws-used.false, c.requires.1)

pub returns-then-ws-used : goal.returns-then-ws-used
returns-then-ws-used c = let both = told-room Bits64 _ _ _ c.requires.1 (omega arith) in record { answer = both.0; workspace = both.1 }

pub returns-in_err-mark_nodes : goal.returns-in_err-mark_nodes
returns-in_err-mark_nodes c = let both = told-range Bits64 _ _ (room (goal.at.returns-in_err-mark_nodes c).Else-ws-used) _ _ c.mark_nodes.ensures.answer c.mark_nodes.ensures.workspace (ap answer_of c.in_err-mark_nodes.was) in
    let e = err_from_is_err_and c.from_residual.result c.from_residual.ensures.1 in
    record { answer = rw (e.1, e.2) both.0; workspace = both.1 }

pub find_deep-requires : goal.find_deep-requires
find_deep-requires c = ((rules-hold c.args.nodes.now.ready).root, root-place Bits64 _ _ _ c.root_at-root.ensures c.args.nodes.now.ready.nodes.at_is, omega arith)

pub returns-in-Some : goal.returns-in-Some
returns-in-Some c = let both = told_deep Bits64 _ _ (room (goal.at.returns-in-Some c).Else-ws-used) _ _ c.mark_nodes.ensures.answer c.mark_nodes.ensures.workspace (ap answer_of c.in_ok-mark_nodes.was) _ c.find_deep.ensures c.args.nodes.now.ready.laid.nodes _ c.in-Some.is
    (cleared_by Bits64 _ _ _ _ c.requires.1 (search rules)) in record { answer = both.0; workspace = both.1 }

pub returns : goal.returns
returns c = let both = told_flat Bits64 _ _ (room (goal.at.returns c).Else-ws-used) _ _ c.mark_nodes.ensures.answer c.mark_nodes.ensures.workspace (ap answer_of c.in_ok-mark_nodes.was) _ c.find_deep.ensures c.in_default.is in record { answer = both.0; workspace = both.1 }
