-- What writing the outline of an accepted file answers.
use Rattle.std.specs.Prelude.{ℕ, ◌≡◌, List, length, Result}
use Rattle.verdict.specs.Checks.{first_fault}
use Rattle.verdict.specs.inner.Gives.{Gives}
use Rattle.verdict.specs.declared.Refusal.{Refusal}
use Rattle.layout.specs.declared.Edition.{Edition}
use Rattle.outline.specs.Outline.{outline_of}
use Rattle.outline.specs.Outlined.{outline_checks}

-- 26, or the outline's length.
abbrev pub OutlineWritten : Edition → List ℕ → ℕ → Result ℕ Refusal → Type 0
OutlineWritten ed b room = Gives (first_fault (outline_checks ed b room)) (λ n. n ≡ length (outline_of ed b))
