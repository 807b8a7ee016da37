-- Lines of the program's input, and hexadecimal digits (FORMAT, "Frames").
use Rattle.std.specs.Prelude.{ℕ, ◌+◌, ◌-◌, ◌*◌, Bool, true, false, cond, ◌&&◌, List, [], ◌∷◌, eqb, leb}

-- A byte in front of the first of some lines, or a line by itself where there are none.
unfoldable pub add_byte : ℕ → List (List ℕ) → List (List ℕ)
add_byte c [] = (c ∷ []) ∷ []
add_byte c (l ∷ ls) = (c ∷ l) ∷ ls

-- The lines, each with the newline that ends it. Only the last may lack its newline.
unfoldable pub lines_of : List ℕ → List (List ℕ)
lines_of [] = []
lines_of (c ∷ cs) = cond (eqb c 10) ((c ∷ []) ∷ lines_of cs) (add_byte c (lines_of cs))

-- The value of a digit, or 16 where it is none. Digits are lower case.
unfoldable pub digit_of : ℕ → ℕ
digit_of c = cond (leb 48 c && leb c 57) (c - 48) (cond (leb 97 c && leb c 102) (c - 87) 16)

-- Whether it is a digit.
unfoldable pub is_digit : ℕ → Bool
is_digit c = leb (digit_of c) 15

-- All are digits.
unfoldable pub digits : List ℕ → Bool
digits [] = true
digits (c ∷ cs) = is_digit c && digits cs

-- The number that digits write, after another.
unfoldable pub number_from : ℕ → List ℕ → ℕ
number_from n [] = n
number_from n (c ∷ cs) = number_from (n * 16 + digit_of c) cs

-- The end of a line: two digits for each of some bytes, and a newline.
unfoldable pub are_bytes : List ℕ → Bool
are_bytes [] = false
are_bytes (c ∷ []) = eqb c 10
are_bytes (c ∷ d ∷ cs) = (is_digit c && is_digit d) && are_bytes cs

-- The bytes that such digits write.
unfoldable pub bytes_of : List ℕ → List ℕ
bytes_of [] = []
bytes_of (c ∷ []) = []
bytes_of (c ∷ d ∷ cs) = (digit_of c * 16 + digit_of d) ∷ bytes_of cs
