-- How characters and numbers are written (FORMAT, "Outline", "Frames").
use Rattle.std.specs.Prelude.{ℕ, zero, suc, ◌+◌, ◌/◌, ◌%◌, ◌^◌, Bool, cond, not, ◌&&◌, ◌||◌, List, [], ◌∷◌, ◌++◌, eqb, ltb, leb, ℤ, pos, negsuc}

-- Hex is lower case.
unfoldable pub hex_digit : ℕ → ℕ
hex_digit d = cond (ltb d 10) (48 + d) (87 + d)

-- n hex digits of x, the highest first.
unfoldable pub hex_of : ℕ → ℕ → List ℕ
hex_of zero x = []
hex_of (suc n) x = hex_digit (x / 16 ^ n % 16) ∷ hex_of n x

-- Characters 0021..007e except `\`, `=` and `"` stand as themselves.
unfoldable pub plain : ℕ → Bool
plain c = (leb 0x21 c && leb c 0x7e) && not (eqb c 0x5c || (eqb c 0x3d || eqb c 0x22))

-- Others as `\` and four hex digits.
unfoldable pub escape : ℕ → List ℕ
escape c = cond (plain c) (c ∷ []) (0x5c ∷ hex_of 4 c)

unfoldable pub escaped : List ℕ → List ℕ
escaped [] = []
escaped (c ∷ cs) = escape c ++ escaped cs

-- The decimal digits of x, the fewest that write it, the highest first; `left` is at least their number.
unfoldable pub decimal_in : ℕ → ℕ → List ℕ
decimal_in zero x = []
decimal_in (suc left) x = cond (ltb x 10) ((48 + x) ∷ []) (decimal_in left (x / 10) ++ ((48 + x % 10) ∷ []))

-- Twenty digits write any number of 64 bits.
unfoldable pub decimal : ℕ → List ℕ
decimal x = decimal_in 20 x

-- A whole number: `-` if negative.
unfoldable pub whole_text : ℤ → List ℕ
whole_text (pos n) = decimal n
whole_text (negsuc n) = 0x2d ∷ decimal (n + 1)
