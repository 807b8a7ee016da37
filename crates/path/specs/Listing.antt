-- Path listing (FORMAT, "Questions"): the matches written out, or refusal 25.
use Rattle.std.specs.Prelude.{ℕ, ◌/◌, Bool, true, false, cond, not, ◌&&◌, List, [], ◌∷◌, ◌++◌, eqb, length, drop}
use Rattle.le.specs.Le.{le4}
use Rattle.verdict.specs.Checks.{Check, at_most}
use Rattle.verdict.specs.Decide.{texts?}
use Rattle.verdict.specs.Verdict.{Verdict, Accepted, Refused}
use Rattle.layout.specs.declared.Edition.{Edition}
use Rattle.keys.specs.Names.{name_text}
use Rattle.tree.specs.Chain.{Tree, ranged}
use Rattle.tree.specs.File.{tree_of}
use Rattle.path.specs.Names.{names_of}

-- A truth by a decision.
unfoldable pub truth_of : {P : Type 0} → Dec P → Bool
truth_of (yes p) = true
truth_of (no f) = false

-- The matches below a node are found from its children with one name fewer. (proofs: these are the nodes that Matches.antt defines.)
unfoldable pub matches : Tree → (ℕ → List ℕ) → List (List ℕ) → ℕ → List ℕ
matches t text [] a = a ∷ []
matches t text (x ∷ xs) a =
    ranged (λ c. cond (not (eqb (t.name c) 0) && truth_of (texts? (text (t.name c)) x)) (matches t text xs c) []) (t.first a) (t.count a)

-- The matches of a path in a file.
unfoldable pub path_matches : Edition → List ℕ → List ℕ → List ℕ
path_matches ed b path = matches (tree_of ed b) (name_text ed b) (names_of path) 0

-- A listing place is four bytes, low byte first.
unfoldable pub encode : List ℕ → List ℕ
encode [] = []
encode (a ∷ l) = le4 a ++ encode l

-- 25: a listing has as many places as its length divided by four, rounded down; the place is the number of matches.
unfoldable pub listing_checks : Edition → List ℕ → List ℕ → ℕ → List Check
listing_checks ed b path room = at_most 25 (length (path_matches ed b path)) (length (path_matches ed b path)) (room / 4) ∷ []

-- The listing afterwards: the matches in the first places, all later bytes as they were; where anything is refused, every byte as it was.
unfoldable pub listing_after : Edition → List ℕ → List ℕ → List ℕ → Verdict → List ℕ
listing_after ed b path list Accepted = encode (path_matches ed b path) ++ drop (length (encode (path_matches ed b path))) list
listing_after ed b path list (Refused n p) = list
