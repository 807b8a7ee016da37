-- What the steps of reading answer: one line and its parts.
use Rattle.std.specs.Prelude.{ℕ, ◌+◌, ◌*◌, cond, ◌&&◌, List, [], ◌∷◌, eqb, leb, length, get_or, take, drop, Option, Some, None}
use Rattle.frames.specs.Lines.{is_digit, digit_of, digits, number_from, are_bytes, bytes_of}
use Rattle.frames.specs.Frames.{is_frame, data_of}
use Rattle.frames.specs.declared.Frame.{Frame}

-- The first of the lines: all up to the first newline, and with it.
unfoldable pub first_line : List ℕ → List ℕ
first_line [] = []
first_line (c ∷ cs) = c ∷ cond (eqb c 10) [] (first_line cs)

-- The value of a digit.
unfoldable pub value_of : ℕ → Option ℕ
value_of c = cond (is_digit c) (Some (digit_of c)) None

-- The byte that two digits write.
unfoldable pub byte_of : ℕ → ℕ → Option ℕ
byte_of c d = cond (is_digit c && is_digit d) (Some (digit_of c * 16 + digit_of d)) None

-- The number that 8 digits write where a space follows them.
unfoldable pub offset_of : List ℕ → Option ℕ
offset_of s = cond (digits (take 8 s) && eqb (get_or s 8 0) 32) (Some (number_from 0 (take 8 s))) None

-- How many bytes the digits up to a newline write, if they are no more than 32.
unfoldable pub bytes_written : List ℕ → Option ℕ
bytes_written s =
    cond (are_bytes (first_line s) && leb (length (bytes_of (first_line s))) 32)
    (Some (length (bytes_of (first_line s))))
    None

-- The bytes that a line gives after n bytes: none where it is no frame.
unfoldable pub given_by : ℕ → List ℕ → List ℕ
given_by n l = cond (is_frame n l) (data_of l) []

-- A frame: where the next line starts and how many bytes there are then.
abbrev pub UpTo : ℕ → ℕ → Option Frame
UpTo q m = Some (record { next = q; count = m })

-- The line at p, after n bytes, if it is a frame.
unfoldable pub line_at : List ℕ → ℕ → ℕ → Option Frame
line_at s p n =
    cond (is_frame n (first_line (drop p s)))
    (UpTo (p + length (first_line (drop p s))) (n + length (data_of (first_line (drop p s)))))
    None
