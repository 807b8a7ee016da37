-- What many lookups at once answer in an accepted file.
use Rattle.std.specs.Prelude.{ℕ, ◌≡◌, List, ◌++◌, length, Result}
use Rattle.verdict.specs.Checks.{first_fault}
use Rattle.verdict.specs.inner.Gives.{Gives}
use Rattle.verdict.specs.declared.Refusal.{Refusal}
use Rattle.path.specs.Names.{names_of, path_checks}
use Rattle.batch.specs.Places.{place_checks}

-- 24 before 25; otherwise the number of texts.
abbrev pub Answered : List ℕ → ℕ → Result ℕ Refusal → Type 0
Answered texts room = Gives (first_fault (path_checks texts ++ place_checks texts room)) (λ n. n ≡ length (names_of texts))
