-- How a refusal is printed (FORMAT, "Frames"), without a newline.
use Rattle.std.specs.Prelude.{ℕ, List, ◌++◌, codes, decimal}
use Rattle.verdict.specs.Verdict.{number}
use Rattle.verdict.specs.declared.Refusal.{Refusal}

-- `refused R at P`.
abbrev pub message : Refusal → List ℕ
message r = codes "refused " ++ decimal (number r.0) ++ codes " at " ++ decimal r.1
