-- A path and its names (FORMAT, "Questions"), and refusal 24.
use Rattle.std.specs.Prelude.{ℕ, zero, suc, ◌-◌, ◌%◌, ◌≡◌, cond, ◌⊎◌, List, [], ◌∷◌, eqb, length}
use Rattle.std.proofs.Math.Decide.{ℕ_discrete}
use Rattle.verdict.specs.Checks.{Check, check, equal}
use Rattle.verdict.specs.Decide.{either?}
use Rattle.le.specs.Le.{u16_at}
use Rattle.lookup.specs.Lookup.{text_from}

-- A character in front of the first of some names.
unfoldable pub add_char : ℕ → List (List ℕ) → List (List ℕ)
add_char c [] = []
add_char c (x ∷ xs) = (c ∷ x) ∷ xs

-- The names of some characters: each 0 ends one, which may be empty. Characters after the last 0 make none.
unfoldable pub split : List ℕ → List (List ℕ)
split [] = []
split (c ∷ cs) = cond (eqb c 0) ([] ∷ split cs) (add_char c (split cs))

-- The names of a path that comes as bytes.
unfoldable pub names_of : List ℕ → List (List ℕ)
names_of path = split (text_from path)

-- Name i of some, or the empty one.
unfoldable pub name_at : List (List ℕ) → ℕ → List ℕ
name_at [] i = []
name_at (x ∷ xs) zero = x
name_at (x ∷ xs) (suc i) = name_at xs i

-- A path ends in a 0 character unless it is empty.
abbrev pub Closed : List ℕ → Type 0
Closed path = (length path ≡ 0) ⊎ (u16_at path (length path - 2) ≡ 0)

-- 24: a path of an odd number of bytes, or not empty and with a last character that is not 0; the place is its length in bytes.
unfoldable pub path_checks : List ℕ → List Check
path_checks path =
    equal 24 (length path) (length path % 2) 0
    ∷ check 24 (length path) (Closed path) (either? (ℕ_discrete (length path) 0) (ℕ_discrete (u16_at path (length path - 2)) 0))
    ∷ []
