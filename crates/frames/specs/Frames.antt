-- Frames (FORMAT, "Frames"): lines of hexadecimal to bytes, or the first bad line.
use Rattle.std.specs.Prelude.{ℕ, ◌+◌, Bool, cond, ◌&&◌, eqb, leb, length, get_or, take, drop, Result, Ok, Err}
use mathlib.Core.List.{List, [], ◌∷◌, flatten}
use Rattle.frames.specs.Lines.{lines_of, digits, number_from, are_bytes, bytes_of}
use Rattle.frames.specs.declared.BadLine.{BadLine}

-- The most bytes that a file may have here.
unfoldable pub most : ℕ
most = 32768

-- A line starts with an offset: 8 digits that write n, and a space.
unfoldable pub starts_at : ℕ → List ℕ → Bool
starts_at n l = (digits (take 8 l) && eqb (number_from 0 (take 8 l)) n) && eqb (get_or l 8 0) 32

-- The bytes of a line: those that its digits after offset and space write.
unfoldable pub data_of : List ℕ → List ℕ
data_of l = bytes_of (drop 9 l)

-- A line is a frame after n bytes: its offset counts them, 1 to 32 bytes and a newline follow, and these bytes still fit.
unfoldable pub is_frame : ℕ → List ℕ → Bool
is_frame n l =
    (starts_at n l && are_bytes (drop 9 l))
    && ((leb 1 (length (data_of l)) && leb (length (data_of l)) 32) && leb (n + length (data_of l)) most)

-- The bytes of each frame among some lines, up to the first line that is none; n bytes stand before.
unfoldable pub frames_from : ℕ → List (List ℕ) → List (List ℕ)
frames_from n [] = []
frames_from n (l ∷ ls) = cond (is_frame n l) (data_of l ∷ frames_from (n + length (data_of l)) ls) []

-- The bytes that the input's frames give, up to the first bad line.
unfoldable pub file_of : List ℕ → List ℕ
file_of input = flatten (frames_from 0 (lines_of input))

-- The answers: so many bytes, or a bad line.
abbrev pub Bytes : ℕ → Result ℕ BadLine
Bytes n = Ok n

abbrev pub Bad : ℕ → Result ℕ BadLine
Bad n = Err (record { 0 = n })

-- The answer: how many bytes where each line is a frame, else the first bad line, counted from 1.
unfoldable pub frames_of : List ℕ → Result ℕ BadLine
frames_of input =
    cond (eqb (length (frames_from 0 (lines_of input))) (length (lines_of input)))
    (Bytes (length (file_of input)))
    (Bad (length (frames_from 0 (lines_of input)) + 1))
