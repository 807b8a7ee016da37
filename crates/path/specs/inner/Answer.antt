-- What path listing answers in an accepted file.
use Rattle.std.specs.Prelude.{ℕ, ◌≡◌, List, ◌++◌, length, Result}
use Rattle.verdict.specs.Checks.{first_fault}
use Rattle.verdict.specs.inner.Gives.{Gives}
use Rattle.verdict.specs.declared.Refusal.{Refusal}
use Rattle.layout.specs.declared.Edition.{Edition}
use Rattle.path.specs.Names.{path_checks}
use Rattle.path.specs.Listing.{path_matches, listing_checks}

-- 24 before 25; otherwise the number of matches.
abbrev pub PathListed : Edition → List ℕ → List ℕ → ℕ → Result ℕ Refusal → Type 0
PathListed ed b path room = Gives (first_fault (path_checks path ++ listing_checks ed b path room)) (λ n. n ≡ length (path_matches ed b path))
