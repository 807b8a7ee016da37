-- What request T-10 moved. Before it, the fold of the value hash took 0151 to 0150, and now 0151 stays. The verdict of before is kept for
-- this law only (proofs/OldFold, `fold_moved`).
use Rattle.std.specs.Prelude.{ℕ, ◌≡◌, ◌⊎◌, List, [], ◌++◌}
use Rattle.verdict.specs.Checks.{Check, first_fault, Holds}
use Rattle.verdict.specs.Verdict.{Verdict}
use Rattle.verdict.specs.Verdict.{Refused}
use Rattle.layout.specs.Layout.{layout_checks, values, names}
use Rattle.layout.specs.declared.Edition.{Edition}
use Rattle.strings.specs.Order.{string_checks}
use Rattle.keys.specs.Order.{special_checks, all_key_checks}
use Rattle.nodes.specs.Node.{node_at, attribute_at}
use Rattle.nodes.specs.Order.{all_node_checks}
use Rattle.nodes.specs.OldFold.{FoldsDiffer, all_node_checks_before}
use Rattle.tree.specs.Outcome.{tree_checks}
use Rattle.accept.specs.Verdict.{verdict_of}
use Rattle.accept.specs.Refusals.{AttributeOf}

-- The checks of a file, with those of the nodes and those behind them told: 1 to 15 did not move.
unfoldable pub checks_with : Edition → List ℕ → List Check → List Check → List Check
checks_with ed b nodes rest =
    layout_checks ed b
    ++ (string_checks (values ed b)
    ++ (string_checks (names ed b)
    ++ (special_checks ed b
    ++ (all_key_checks ed b
    ++ (nodes
    ++ rest)))))

-- The verdict as it was: 19 goes by the old fold, all other checks stayed.
unfoldable pub verdict_old_fold : Edition → List ℕ → ℕ → Verdict
verdict_old_fold ed b room = first_fault (checks_with ed b (all_node_checks_before ed b) (tree_checks ed b room))

-- All checks before those of the tree hold: with the old fold, and with the new one.
abbrev pub BuiltBefore : Edition → List ℕ → Type 0
BuiltBefore ed b = Holds (checks_with ed b (all_node_checks_before ed b) [])

abbrev pub BuiltNow : Edition → List ℕ → Type 0
BuiltNow ed b = Holds (checks_with ed b (all_node_checks ed b) [])

-- Attribute i of the used node seg:el, which is live, has a text to which the two folds give different value hashes.
pub record LiveDiffer (ed : Edition) (b : List ℕ) (seg el i : ℕ) : Type 0 where
  pub of : AttributeOf ed b seg el i
  pub differ : FoldsDiffer ed b (attribute_at ed b (node_at ed b seg el) i)

-- The place p is that of such an attribute.
abbrev pub AtDiffering : Edition → List ℕ → ℕ → Type 0
AtDiffering ed b p = (seg : ℕ) × (el : ℕ) × (i : ℕ) × LiveDiffer ed b seg el i × (p ≡ attribute_at ed b (node_at ed b seg el) i)

pub record FoldMoved (ed : Edition) (b : List ℕ) : Type 0 where
  -- Where there is no such attribute, the verdict is the one that it was, in any workspace.
  pub same : ((seg el i : ℕ) → LiveDiffer ed b seg el i → ⊥) → (room : ℕ) → verdict_of ed b room ≡ verdict_old_fold ed b room
  -- A file that was built with the old fold, and has such an attribute, is refused with 19 at one, the same in any workspace.
  pub refused : BuiltBefore ed b → (seg el i : ℕ) → LiveDiffer ed b seg el i
      → (p : ℕ) × AtDiffering ed b p × ((room : ℕ) → verdict_of ed b room ≡ Refused 19 p)
  -- Where it has none, it is built right by the new fold, too.
  pub kept : BuiltBefore ed b → ((seg el i : ℕ) → LiveDiffer ed b seg el i → ⊥) → BuiltNow ed b
  -- In any file the verdict is the one that it was, or, at such an attribute, it is 19 now or was 19 before.
  pub moved : (room : ℕ) → (verdict_of ed b room ≡ verdict_old_fold ed b room)
      ⊎ (((p : ℕ) × (verdict_of ed b room ≡ Refused 19 p) × AtDiffering ed b p)
      ⊎ ((p : ℕ) × (verdict_old_fold ed b room ≡ Refused 19 p) × AtDiffering ed b p))
