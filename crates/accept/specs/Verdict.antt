-- The verdict on a file (FORMAT, "Refusals"): every check of 1 to 23 in the stated order, and the first that does not hold.
use Rattle.std.specs.Prelude.{ℕ, List, ◌++◌}
use Rattle.verdict.specs.Checks.{Check, first_fault}
use Rattle.verdict.specs.Verdict.{Verdict}
use Rattle.layout.specs.Layout.{layout_checks, values, names}
use Rattle.layout.specs.declared.Edition.{Edition}
use Rattle.strings.specs.Order.{string_checks}
use Rattle.keys.specs.Order.{special_checks, all_key_checks}
use Rattle.nodes.specs.Order.{all_node_checks}
use Rattle.tree.specs.Outcome.{tree_checks}

-- Checks run by group: 1; 2 to 6 along the file; 7 to 13 for values, then for names; 14; 15; 16 to 19 and 23 node by node; 20; 21; 22.
unfoldable pub accept_checks : Edition → List ℕ → ℕ → List Check
accept_checks ed b room =
    layout_checks ed b
    ++ (string_checks (values ed b)
    ++ (string_checks (names ed b)
    ++ (special_checks ed b
    ++ (all_key_checks ed b
    ++ (all_node_checks ed b
    ++ tree_checks ed b room)))))

-- The verdict, with so many bytes of workspace.
unfoldable pub verdict_of : Edition → List ℕ → ℕ → Verdict
verdict_of ed b room = first_fault (accept_checks ed b room)
