-- The outline question: refusal 26, and what is left in the buffer (FORMAT, "Questions", "Refusals").
use Rattle.std.specs.Prelude.{ℕ, List, [], ◌∷◌, ◌++◌, length, drop}
use Rattle.verdict.specs.Checks.{Check, at_most}
use Rattle.verdict.specs.Verdict.{Verdict}
use Rattle.verdict.specs.Verdict.{Accepted, Refused}
use Rattle.layout.specs.declared.Edition.{Edition}
use Rattle.outline.specs.Outline.{outline_of}

-- 26: the outline is longer than its buffer; the place is the bytes needed.
unfoldable pub outline_checks : Edition → List ℕ → ℕ → List Check
outline_checks ed b room = at_most 26 (length (outline_of ed b)) (length (outline_of ed b)) room ∷ []

-- The buffer afterwards: the outline and its later bytes as they were; where anything is refused, every byte as it was.
unfoldable pub outline_after : Edition → List ℕ → List ℕ → Verdict → List ℕ
outline_after ed b out Accepted = outline_of ed b ++ drop (length (outline_of ed b)) out
outline_after ed b out (Refused n p) = out
