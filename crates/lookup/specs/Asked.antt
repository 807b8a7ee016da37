-- A text that is asked with (FORMAT, "Refusals").
use Rattle.std.specs.Prelude.{ℕ, ◌%◌, List, [], ◌∷◌, length}
use Rattle.verdict.specs.Checks.{Check, equal}

-- 24: a text or path of an odd number of bytes; the place is its length in bytes.
unfoldable pub text_checks : List ℕ → List Check
text_checks q = equal 24 (length q) (length q % 2) 0 ∷ []
