-- A file is accepted exactly when every rule holds of it and the workspace has a byte for each used node. Assumes nothing.
use Prim.Native.Nat.{ℕ, ◌≤◌}
use native.Mathlib.Omega.{arith}
use mathlib.Core.Path.{◌≡◌, ◌∙◌}
use mathlib.Core.Logic.{◌↔◌}
use mathlib.Core.List.{List}
use Rattle.verdict.specs.Checks.{first_fault}
use Rattle.verdict.specs.Verdict.{Accepted}
use Rattle.verdict.proofs.Laws.{append_inv, fault_append}
use Rattle.layout.specs.Layout.{layout_checks, values, names}
use Rattle.layout.specs.declared.Edition.{Edition}
use Rattle.layout.proofs.Accepted.{layout_iff}
use Rattle.strings.specs.Order.{string_checks}
use Rattle.strings.proofs.Accepted.{strings_iff}
use Rattle.keys.specs.Order.{special_checks, all_key_checks}
use Rattle.keys.proofs.Accepted.{special_iff, keys_iff}
use Rattle.nodes.specs.Order.{all_node_checks}
use Rattle.nodes.proofs.Accepted.{nodes_iff}
use Rattle.tree.specs.File.{used_node_count}
use Rattle.tree.proofs.Accepted.{tree_iff}
use Rattle.accept.specs.Verdict.{accept_checks, verdict_of}
use Rattle.accept.specs.Rules.{FileRules}

module _ (ed : Edition) (b : List ℕ) (room : ℕ) where
  accepted_file : verdict_of ed b room ≡ Accepted → FileRules ed b × (used_node_count ed b ≤ room)
  unfolding verdict_of accept_checks
  accepted_file e =
      let l = append_inv (layout_checks ed b) _ e in
      let v = append_inv (string_checks (values ed b)) _ l.1 in
      let n = append_inv (string_checks (names ed b)) _ v.1 in
      let s = append_inv (special_checks ed b) _ n.1 in
      let k = append_inv (all_key_checks ed b) _ s.1 in
      let d = append_inv (all_node_checks ed b) _ k.1 in
      let laid = (layout_iff ed b).0 l.0 in
      let t = (tree_iff ed b laid.nodes room).0 d.1 in (
        record {
          laid = laid;
          value-table = (strings_iff (values ed b)).0 v.0;
          name-table = (strings_iff (names ed b)).0 n.0;
          special = (special_iff ed b).0 s.0;
          key = (keys_iff ed b).0 k.0;
          nodes = (nodes_iff ed b).0 d.0;
          range = t.ranges;
          depth = t.depth;
        },
        t.room,
      )

  file_accepted : FileRules ed b × (used_node_count ed b ≤ room) → verdict_of ed b room ≡ Accepted
  unfolding verdict_of accept_checks
  file_accepted p =
      let r = p.0 in
      fault_append (layout_checks ed b) _ ((layout_iff ed b).1 r.laid)
      ∙ fault_append (string_checks (values ed b)) _ ((strings_iff (values ed b)).1 r.value-table)
      ∙ fault_append (string_checks (names ed b)) _ ((strings_iff (names ed b)).1 r.name-table)
      ∙ fault_append (special_checks ed b) _ ((special_iff ed b).1 r.special)
      ∙ fault_append (all_key_checks ed b) _ ((keys_iff ed b).1 r.key)
      ∙ fault_append (all_node_checks ed b) _ ((nodes_iff ed b).1 r.nodes)
      ∙ (tree_iff ed b r.laid.nodes room).1 (record { room = p.1; ranges = r.range; depth = r.depth })

  pub accepted_iff : verdict_of ed b room ≡ Accepted ↔ (FileRules ed b × (used_node_count ed b ≤ room))
  accepted_iff = (accepted_file, file_accepted)

-- so room for each used node is room enough
pub enough_room : (ed : Edition) (b : List ℕ) (room : ℕ) → verdict_of ed b room ≡ Accepted → verdict_of ed b (used_node_count ed b) ≡ Accepted
enough_room ed b room e = (accepted_iff ed b (used_node_count ed b)).1 (((accepted_iff ed b room).0 e).0, omega arith)

-- and its tables passed 7 to 13, and its nodes 16 to 19 and 23
module _ (ed : Edition) (b : List ℕ) (room : ℕ) (e : verdict_of ed b room ≡ Accepted) where
  pub values-clean : first_fault (string_checks (values ed b)) ≡ Accepted
  values-clean = (strings_iff (values ed b)).1 ((accepted_iff ed b room).0 e).0.value-table

  pub names-clean : first_fault (string_checks (names ed b)) ≡ Accepted
  names-clean = (strings_iff (names ed b)).1 ((accepted_iff ed b room).0 e).0.name-table

  pub nodes-clean : first_fault (all_node_checks ed b) ≡ Accepted
  nodes-clean = (nodes_iff ed b).1 ((accepted_iff ed b room).0 e).0.nodes
