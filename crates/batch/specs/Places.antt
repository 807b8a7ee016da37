-- Many lookups at once: their answers written out place by place, or refusal 25. The texts come as a path's names do, each followed by a 0.
use Rattle.std.specs.Prelude.{ℕ, ◌/◌, List, [], ◌∷◌, ◌++◌, length, drop}
use Rattle.le.specs.Le.{le4}
use Rattle.verdict.specs.Checks.{Check, at_most}
use Rattle.verdict.specs.Verdict.{Verdict, Accepted, Refused}
use Rattle.lookup.specs.Kinds.{kind_of, told_number}
use Rattle.lookup.specs.declared.Lookup.{Lookup}
use Rattle.path.specs.Names.{names_of}

-- A place of the answers is eight bytes: the kind and the value that one lookup answers, four bytes each, low byte first.
unfoldable pub place : Lookup → List ℕ
place l = le4 (kind_of l) ++ le4 (told_number l)

-- The places of some texts, in order. f is what the question for one text answers.
unfoldable pub places : (List ℕ → Lookup) → List (List ℕ) → List ℕ
places f [] = []
places f (x ∷ xs) = place (f x) ++ places f xs

-- 25: the answers have as many places as their length divided by eight, rounded down; the refusal's place is the number of texts.
unfoldable pub place_checks : List ℕ → ℕ → List Check
place_checks texts room = at_most 25 (length (names_of texts)) (length (names_of texts)) (room / 8) ∷ []

-- The answers afterwards: a place for each text, all later bytes as they were; where anything is refused, every byte as it was.
unfoldable pub answers_after : (List ℕ → Lookup) → List ℕ → List ℕ → Verdict → List ℕ
answers_after f texts answers Accepted = places f (names_of texts) ++ drop (length (places f (names_of texts))) answers
answers_after f texts answers (Refused n p) = answers
