-- What is left from a line on: the answer and the file. Assumes nothing.
use mathlib.Core.Path.{◌≡◌, refl, ap}
use mathlib.Core.Bool.{true, false, cond}
use mathlib.Core.List.{List, [], ◌++◌, flatten}
use Prim.Native.Nat.{ℕ, suc, ◌+◌, ◌<◌}
use native.Mathlib.Nat.{add-zero, zero-add}
use native.Mathlib.Omega.{arith}
use lib.Dec.{eqb, eqb-suc-suc, eqb-zero-suc}
use lib.ListN.{length, drop, length-append}
use Rattle.frames.specs.Lines.{lines_of}
use Rattle.frames.specs.inner.Reading.{first_line}
use Rattle.std.specs.Prelude.{Result}
use Rattle.frames.specs.Frames.{data_of, is_frame, frames_from, file_of, frames_of, Bytes, Bad}
use Rattle.frames.specs.declared.BadLine.{BadLine}
use Rattle.frames.proofs.Lines.{lines_open}

-- the bytes of the frames from here on, after n bytes
unfoldable pub file_from : ℕ → List ℕ → List ℕ
file_from n s = flatten (frames_from n (lines_of s))

-- the answer from the line of that number on, after n bytes
unfoldable pub answer_from : ℕ → ℕ → List ℕ → Result ℕ BadLine
answer_from n number s =
    cond (eqb (length (frames_from n (lines_of s))) (length (lines_of s)))
    (Bytes (n + length (file_from n s)))
    (Bad (length (frames_from n (lines_of s)) + number))

pub file_start : (s : List ℕ) → file_of s ≡ file_from 0 s
unfolding file_of file_from
file_start s = refl

pub answer_start : (s : List ℕ) → frames_of s ≡ answer_from 0 1 s
unfolding frames_of answer_from file_of file_from
answer_start s = rw zero-add

pub file_end : (n : ℕ) → file_from n [] ≡ []
unfolding file_from lines_of frames_from flatten
file_end n = refl

pub answer_end : (n number : ℕ) → answer_from n number [] ≡ Bytes n
unfolding answer_from file_from lines_of frames_from flatten
answer_end n number = rw add-zero

same_answer : (f l a b number : ℕ) → a ≡ b
    → cond (eqb (suc f) (suc l)) (Bytes a) (Bad (suc f + number)) ≡ cond (eqb f l) (Bytes b) (Bad (f + (number + 1)))
same_answer f l a b number p = let q : suc f + number ≡ f + (number + 1) = omega arith in rw (eqb-suc-suc f l, p, q)

module _ (n : ℕ) (s : List ℕ) (h : 0 < length s) where
  pub file_other : is_frame n (first_line s) ≡ false → file_from n s ≡ []
  unfolding file_from frames_from flatten
  file_other e = rw (lines_open s h, e)

  pub file_frame : is_frame n (first_line s) ≡ true
      → file_from n s ≡ data_of (first_line s) ++ file_from (n + length (data_of (first_line s))) (drop (length (first_line s)) s)
  unfolding file_from frames_from flatten
  file_frame e = rw (lines_open s h, e)

  pub answer_other : (number : ℕ) → is_frame n (first_line s) ≡ false → answer_from n number s ≡ Bad number
  unfolding answer_from frames_from
  answer_other number e = rw (lines_open s h, e) (simp (eqb-zero-suc, zero-add))

  pub answer_frame : (number : ℕ) → is_frame n (first_line s) ≡ true
      → answer_from n number s ≡ answer_from (n + length (data_of (first_line s))) (number + 1) (drop (length (first_line s)) s)
  unfolding answer_from frames_from
  answer_frame number e =
      let d : List ℕ = data_of (first_line s) in
      let t : List ℕ = drop (length (first_line s)) s in
      let a : n + length (file_from n s) ≡ n + length d + length (file_from (n + length d) t) =
      omega (arith, ap length (file_frame e), length-append d (file_from (n + length d) t)) in
      rw (lines_open s h, e) (same_answer (length (frames_from (n + length d) (lines_of t))) (length (lines_of t)) _ _ number a)
