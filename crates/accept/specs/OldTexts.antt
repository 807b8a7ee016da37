-- What request T-01 moved. Before it, a text had to have its 0 stored in the used part, and 8 was also given where it had not. The verdict
-- of before is kept for this law only (proofs/OldTexts).
use Rattle.std.specs.Prelude.{ℕ, ◌<◌, ◌≡◌, ◌⊎◌, List, ◌++◌}
use Rattle.verdict.specs.Checks.{first_fault}
use Rattle.verdict.specs.Verdict.{Verdict}
use Rattle.verdict.specs.Verdict.{Refused}
use Rattle.text.specs.Text.{chars}
use Rattle.layout.specs.Table.{Table, entries}
use Rattle.layout.specs.Layout.{layout_checks, values, names}
use Rattle.layout.specs.declared.Edition.{Edition}
use Rattle.strings.specs.Texts.{text_of}
use Rattle.strings.specs.Rules.{Resolved}
use Rattle.strings.specs.OldTexts.{text_start, text_room, Stored, EndedAt, string_checks_before}
use Rattle.keys.specs.Order.{special_checks, all_key_checks}
use Rattle.nodes.specs.Order.{all_node_checks}
use Rattle.tree.specs.Outcome.{tree_checks}
use Rattle.accept.specs.Verdict.{verdict_of}

-- The verdict as it was: the checks of the two string tables are those of before, all others stayed.
unfoldable pub verdict_old_texts : Edition → List ℕ → ℕ → Verdict
verdict_old_texts ed b room =
    first_fault (layout_checks ed b
    ++ (string_checks_before (values ed b)
    ++ (string_checks_before (names ed b)
    ++ (special_checks ed b
    ++ (all_key_checks ed b
    ++ (all_node_checks ed b
    ++ tree_checks ed b room))))))

-- Every text of an entry has its stored 0.
abbrev pub AllStored : Table → Type 0
AllStored t = (k j : ℕ) → k < t.buckets → j < entries t k → Resolved t k j → Stored t k j

pub record TextsMoved (ed : Edition) (b : List ℕ) : Type 0 where
  -- A text that a stored 0 ended is the same text now.
  pub text : (t : Table) (k j m : ℕ) → m < text_room t k j → EndedAt t k j m → text_of t k j ≡ chars t.bytes (text_start t k j) m
  -- Where every text has its stored 0, the verdict is the one that it was, in any workspace.
  pub same : AllStored (values ed b) → AllStored (names ed b) → (room : ℕ) → verdict_of ed b room ≡ verdict_old_texts ed b room
  -- In any file the verdict is the one that it was, or it was refusal 8. So a file that was accepted is accepted.
  pub moved : (room : ℕ) → (verdict_of ed b room ≡ verdict_old_texts ed b room) ⊎ ((p : ℕ) × (verdict_old_texts ed b room ≡ Refused 8 p))
