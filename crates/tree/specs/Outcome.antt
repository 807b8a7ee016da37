-- What the tree's checks answer and leave in the workspace (FORMAT, "Refusals", "Workspace").
use Rattle.std.specs.Prelude.{ℕ, cond, ◌||◌, List, ◌++◌, eqb}
use Rattle.verdict.specs.Checks.{Check}
use Rattle.verdict.specs.Verdict.{Verdict, Accepted, Refused}
use Rattle.layout.specs.declared.Edition.{Edition}
use Rattle.tree.specs.Order.{room_checks, all_range_checks, depth_checks}
use Rattle.tree.specs.Marks.{cleared, marked}

-- 20; 21; 22.
unfoldable pub tree_checks : Edition → List ℕ → ℕ → List Check
tree_checks ed b room = room_checks ed b room ++ (all_range_checks ed b ++ depth_checks ed b)

-- What acceptance's own verdict leaves: refusals 1 to 20 and 23 leave the workspace untouched; 21 and 22 leave its first U bytes 0;
-- acceptance leaves the marks. (A 24, 25 or 26 follows an acceptance and is none of these verdicts.)
unfoldable pub workspace_after : Edition → List ℕ → List ℕ → Verdict → List ℕ
workspace_after ed b ws Accepted = marked ed b ws
workspace_after ed b ws (Refused n p) = cond (eqb n 21 || eqb n 22) (cleared ed b ws) ws
