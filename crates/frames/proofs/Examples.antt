-- Inputs of one or two lines, as they are to be read (FORMAT, "Frames"). Assumes nothing.
use mathlib.Core.Path.{◌≡◌, refl}
use mathlib.Core.List.{List, [], ◌∷◌, ◌++◌, flatten}
use Prim.Native.Nat.{ℕ}
use lib.ListN.{replicate}
use Rattle.frames.specs.Lines.{add_byte, lines_of, digit_of, is_digit, digits, number_from, are_bytes, bytes_of}
use Rattle.frames.specs.Frames.{most, starts_at, data_of, is_frame, frames_from, file_of, frames_of, Bytes, Bad}

-- seven zeros, the last digit of the offset, a space, and the rest of the line
abbrev line : ℕ → List ℕ → List ℕ
line digit rest = 48 ∷ 48 ∷ 48 ∷ 48 ∷ 48 ∷ 48 ∷ 48 ∷ digit ∷ 32 ∷ rest

-- `00000000 a9ff`
abbrev two : List ℕ
two = line 48 (97 ∷ 57 ∷ 102 ∷ 102 ∷ 10 ∷ [])

pub record Examples : Type 0 where
  pub no_lines : frames_of [] ≡ Bytes 0
  pub two_bytes : frames_of two ≡ Bytes 2
  pub their_values : file_of two ≡ 169 ∷ 255 ∷ []
  pub next_line : frames_of (two ++ line 50 (48 ∷ 55 ∷ 10 ∷ [])) ≡ Bytes 3
  pub wrong_offset : frames_of (two ++ line 49 (48 ∷ 55 ∷ 10 ∷ [])) ≡ Bad 2
  pub bytes-before : file_of (two ++ line 49 (48 ∷ 55 ∷ 10 ∷ [])) ≡ 169 ∷ 255 ∷ []
  pub empty_line : frames_of (two ++ (10 ∷ [])) ≡ Bad 2
  pub no_newline : frames_of (line 48 (97 ∷ 57 ∷ [])) ≡ Bad 1
  pub upper_case : frames_of (line 48 (65 ∷ 57 ∷ 10 ∷ [])) ≡ Bad 1
  pub single_digit : frames_of (line 48 (97 ∷ 57 ∷ 48 ∷ 10 ∷ [])) ≡ Bad 1
  pub most_bytes : frames_of (line 48 (replicate 64 97 ++ (10 ∷ []))) ≡ Bytes 32
  pub too_many : frames_of (line 48 (replicate 66 97 ++ (10 ∷ []))) ≡ Bad 1
  pub no_byte : frames_of (line 48 (10 ∷ [])) ≡ Bad 1

pub examples : Examples
unfolding add_byte lines_of digit_of is_digit digits number_from are_bytes bytes_of most starts_at data_of is_frame frames_from file_of frames_of flatten
examples =
    record {
      no_lines = refl;
      two_bytes = refl;
      their_values = refl;
      next_line = refl;
      wrong_offset = refl;
      bytes-before = refl;
      empty_line = refl;
      no_newline = refl;
      upper_case = refl;
      single_digit = refl;
      most_bytes = refl;
      too_many = refl;
      no_byte = refl;
    }
