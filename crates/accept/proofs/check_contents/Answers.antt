-- `accept::check_contents` meets its contract: group after group, the verdict is that of what is left. Assumes nothing.
use mathlib.Core.Path.{◌≡◌, ap, sym, ◌∙◌}
use mathlib.Core.List.{List}
use Prim.Native.Nat.{ℕ}
use lib.ListN.{length}
use Rattle.verdict.specs.Checks.{first_fault}
use Rattle.verdict.specs.Verdict.{Accepted}
use Rattle.verdict.specs.inner.Tells.{Sure}
use Rattle.verdict.proofs.Gives.{says_exit, given, refuses, clean_of, refused_of}
use Rattle.layout.specs.Layout.{values, names}
use Rattle.layout.specs.declared.Edition.TheVariants.{Bits64}
use Rattle.strings.specs.Order.{string_checks}
use Rattle.positions.specs.inner.Packed.{Packed}
use Rattle.keys.specs.Order.{special_checks, all_key_checks}
use Rattle.keys.specs.inner.Known.{Known, SpecialsFound}
use Rattle.nodes.specs.Order.{all_node_checks}
use Rattle.tree.specs.Outcome.{workspace_after}
use Rattle.accept.proofs.Numbers.{calm_strings, calm_special, calm_keys, calm_nodes}
use Rattle.accept.proofs.Groups.{left_values, left_names, left_special, left_keys, left_nodes, left_tree, settled}
use Rattle.accept.proofs.Held.{clean_same, table_answer, nodes_ready, tree_ready, used-told}
use Rattle.accept.proofs.check_contents.Goals as goal
use Rattle.accept.proofs.check_contents.Goals.{In_ok-packed, In_ok-check_table, After-check_special, In_ok-special, In_ok-check_keys, In_ok-check_nodes_in_batches}

-- what each group answers that refuses nothing
values_done : (c : In_ok-packed) → (first_fault (string_checks (values Bits64 c.args.b.now)) ≡ Accepted) × Sure (Packed (values Bits64 c.args.b.now)) c.in_ok-packed.packed
values_done c = given (table_answer c.values_of-values.ensures.0 c.check_table.ensures) c.in_ok-packed.was

names_done : (c : In_ok-check_table) → first_fault (string_checks (names Bits64 c.args.b.now)) ≡ Accepted
names_done c = (given (table_answer c.names_of-names.ensures.0 c.check_table-2.ensures) c.in_ok-check_table.was).0

special_found : (c : After-check_special) → SpecialsFound Bits64 c.args.b.now c.check_special.result
special_found c = rw c.names_of-names.ensures.1 at c.check_special.ensures

special_done : (c : In_ok-special) → (first_fault (special_checks Bits64 c.args.b.now) ≡ Accepted) × Known Bits64 c.args.b.now c.in_ok-special.special
special_done c = given (special_found (goal.at.In_ok-special c).After-check_special) c.in_ok-special.was

keys_done : (c : In_ok-check_keys) → first_fault (all_key_checks Bits64 c.args.b.now) ≡ Accepted
keys_done c = clean_of c.check_keys.ensures c.in_ok-check_keys.was

nodes_done : (c : In_ok-check_nodes_in_batches) → first_fault (all_node_checks Bits64 c.args.b.now) ≡ Accepted
nodes_done c = clean_of c.check_nodes_in_batches.ensures c.in_ok-check_nodes_in_batches.was

pub returns-in_err-packed : goal.returns-in_err-packed
returns-in_err-packed c =
    let s = settled Bits64 _ _ _ _ (left_values Bits64 _ _ c.requires _) (calm_strings _) (refuses (table_answer c.values_of-values.ensures.0 c.check_table.ensures) c.in_err-packed.was) in
    record { answer = says_exit _ _ c.from_residual.ensures.1 s.0; workspace = s.1 }

pub returns-in_err-check_table : goal.returns-in_err-check_table
returns-in_err-check_table c =
    let at = goal.at.returns-in_err-check_table c in
    let s = settled Bits64 _ _ _ _ (left_names Bits64 _ _ c.requires _ (values_done at.In_ok-packed).0) (calm_strings _) (refuses (table_answer c.names_of-names.ensures.0 c.check_table-2.ensures) c.in_err-check_table.was) in
    record { answer = says_exit _ _ c.from_residual-in_err-check_table.ensures.1 s.0; workspace = s.1 }

pub invariant_of-checked : goal.invariant_of-checked
invariant_of-checked c = record { checked = clean_same c.names_of-names.ensures.0 (names_done (goal.at.invariant_of-checked c).In_ok-check_table) }

pub check_special-requires : goal.check_special-requires
check_special-requires c = let e = c.names_of-names.ensures in e.0 ∙ ap (λ (x : List ℕ). names Bits64 x) (sym e.1)

pub returns-in_err-special : goal.returns-in_err-special
returns-in_err-special c =
    let at = goal.at.returns-in_err-special c in
    let s = settled Bits64 _ _ _ _ (left_special Bits64 _ _ c.requires _ (values_done at.In_ok-packed).0 (names_done at.In_ok-check_table)) (calm_special Bits64 _) (refuses (special_found at.After-check_special) c.in_err-special.was) in
    record { answer = says_exit _ _ c.from_residual-in_err-special.ensures.1 s.0; workspace = s.1 }

pub check_keys-requires : goal.check_keys-requires
check_keys-requires c = (c.requires.laid, (special_done (goal.at.check_keys-requires c).In_ok-special).1)

pub returns-in_err-check_keys : goal.returns-in_err-check_keys
returns-in_err-check_keys c =
    let at = goal.at.returns-in_err-check_keys c in
    let s = settled Bits64 _ _ _ _ (left_keys Bits64 _ _ c.requires _ (values_done at.In_ok-packed).0 (names_done at.In_ok-check_table) (special_done at.In_ok-special).0) (calm_keys Bits64 _) (refused_of c.check_keys.ensures c.in_err-check_keys.was) in
    record { answer = says_exit _ _ c.from_residual-in_err-check_keys.ensures.1 s.0; workspace = s.1 }

pub invariant_of-prepared : goal.invariant_of-prepared
invariant_of-prepared c =
    let at = goal.at.invariant_of-prepared c in
    record { ready = nodes_ready Bits64 _ _ c.requires _ (special_done at.In_ok-special).1 (values_done at.In_ok-packed).0 }

pub check_nodes_in_batches-requires : goal.check_nodes_in_batches-requires
check_nodes_in_batches-requires c = (values_done (goal.at.check_nodes_in_batches-requires c).In_ok-packed).1

pub returns-in_err-check_nodes_in_batches : goal.returns-in_err-check_nodes_in_batches
returns-in_err-check_nodes_in_batches c =
    let at = goal.at.returns-in_err-check_nodes_in_batches c in
    let s = settled Bits64 _ _ _ _ (left_nodes Bits64 _ _ c.requires _ (values_done at.In_ok-packed).0 (names_done at.In_ok-check_table) (special_done at.In_ok-special).0 (keys_done at.In_ok-check_keys)) (calm_nodes Bits64 _)
    (refused_of c.check_nodes_in_batches.ensures c.in_err-check_nodes_in_batches.was) in
    record { answer = says_exit _ _ c.from_residual-in_err-check_nodes_in_batches.ensures.1 s.0; workspace = s.1 }

pub invariant_of-nodes : goal.invariant_of-nodes
invariant_of-nodes c = record { ready = tree_ready Bits64 _ _ c.requires (nodes_done (goal.at.invariant_of-nodes c).In_ok-check_nodes_in_batches) }

pub check_tree-requires : goal.check_tree-requires
check_tree-requires c = (c.requires.node_counts, used-told Bits64 _ _ c.requires)

pub returns : goal.returns
returns c =
    let at = goal.at.returns c in
    let l = left_tree Bits64 _ _ c.requires (length c.args.ws.now) (values_done at.In_ok-packed).0 (names_done at.In_ok-check_table) (special_done at.In_ok-special).0 (keys_done at.In_ok-check_keys) (nodes_done at.In_ok-check_nodes_in_batches) in
    record { answer = c.check_tree.ensures.answer ∙ sym l; workspace = c.check_tree.ensures.workspace ∙ ap (workspace_after Bits64 c.args.b.now c.args.ws.now) (sym l) }
