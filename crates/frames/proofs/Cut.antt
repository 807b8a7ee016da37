-- An input has the answer and the file of its first m bytes, where m is more than the longest valid input has: a frame of k bytes
-- has 10 + 2 * k characters, at most 12 a byte, so valid inputs have at most 12 * 32768. Assumes nothing.
use mathlib.Core.Path.{◌≡◌, refl, sym, ap, ◌∙◌}
use mathlib.Core.Bool.{Bool, true, false, cond, ◌&&◌}
use mathlib.Core.List.{List, [], ◌∷◌, ◌++◌, flatten}
use mathlib.Core.Logic.{⊎_elim}
use Prim.Native.Nat.{ℕ, zero, suc, ◌+◌, ◌-◌, ◌*◌, ◌≤◌, ◌<◌}
use native.Mathlib.Nat.{sub-zero, zero-sub, suc-sub-suc}
use native.Mathlib.Omega.{arith}
use lib.Dec.{eqb, leb}
use lib.ListN.{length, take, drop, length-append, length-drop, length-take}
use lib.Seq.{take-nil}
use Rattle.laws.proofs.Order.{le_or_lt}
use borrow.Author.Tests.{leb-true}
use Rattle.frames.specs.Lines.{lines_of, is_digit, are_bytes}
use Rattle.frames.specs.Frames.{most, starts_at, data_of, is_frame, frames_from, file_of, frames_of}
use Rattle.frames.specs.inner.Reading.{first_line}
use Rattle.frames.proofs.Tests.{by_test, and_left, and_right}
use Rattle.frames.proofs.Lines.{line-some}
use Rattle.frames.proofs.Framed.{frame_inv, framed_length, framed_data}
use Rattle.frames.proofs.Answers.{file_from, answer_from, file_start, answer_start, file_other, file_frame, answer_other, answer_frame}

-- ---- the first line of a part

-- whether a newline is among some bytes
ended : List ℕ → Bool
ended [] = false
ended (c ∷ cs) = cond (eqb c 10) true (ended cs)

ended_more : (c : ℕ) (cs : List ℕ) → ended cs ≡ true → ended (c ∷ cs) ≡ true
unfolding ended
ended_more c cs h = by_test (eqb c 10) (λ e. simp e) (λ e. simp e h)

ended_drop : (k : ℕ) (s : List ℕ) → ended (drop k s) ≡ true → ended s ≡ true
ended_drop zero s h = h
ended_drop (suc k) [] h = h
ended_drop (suc k) (c ∷ cs) h = ended_more c cs (ended_drop k cs h)

bytes_ended : (s : List ℕ) → are_bytes s ≡ true → ended s ≡ true
unfolding ended are_bytes
bytes_ended [] h = h
bytes_ended (c ∷ []) h = simp h
bytes_ended (c ∷ d ∷ cs) h = ended_more c (d ∷ cs) (ended_more d cs (bytes_ended cs (and_right (is_digit c && is_digit d) (are_bytes cs) h)))

frame_ended : (n : ℕ) (l : List ℕ) → is_frame n l ≡ true → ended l ≡ true
unfolding is_frame
frame_ended n l h =
    let a = and_left (starts_at n l && are_bytes (drop 9 l)) _ h in
    ended_drop 9 l (bytes_ended (drop 9 l) (and_right (starts_at n l) (are_bytes (drop 9 l)) a))

-- with its newline, it is the first line of the whole
line_ended : (k : ℕ) (s : List ℕ) → ended (first_line (take k s)) ≡ true → first_line (take k s) ≡ first_line s
unfolding ended first_line
line_ended zero s h = let z : ◌≡◌ {A = ℕ} 0 1 = cc in absurd (omega arith)
line_ended (suc k) [] h = refl
line_ended (suc k) (c ∷ cs) h =
    by_test (eqb c 10) (λ e. simp e) (λ e. simp e (ap (λ r. c ∷ r) (line_ended k cs (simp e at h))))

-- and so where the part holds that
line_held : (k : ℕ) (s : List ℕ) → length (first_line s) ≤ k → first_line (take k s) ≡ first_line s
unfolding first_line
line_held zero [] h = refl
line_held zero (c ∷ cs) h = absurd (omega arith)
line_held (suc k) [] h = refl
line_held (suc k) (c ∷ cs) h =
    by_test (eqb c 10) (λ e. simp e) (λ e. simp e (ap (λ r. c ∷ r) (line_held k cs (omega (arith, simp e at h)))))

-- ---- the whole

drop_part : (k m : ℕ) (s : List ℕ) → drop k (take m s) ≡ take (m - k) (drop k s)
drop_part zero m s = rw sub-zero
drop_part (suc k) zero s = rw zero-sub
drop_part (suc k) (suc m) [] = sym (take-nil (suc m - suc k))
drop_part (suc k) (suc m) (c ∷ cs) = rw suc-sub-suc (drop_part k m cs)

take-some : (m : ℕ) (s : List ℕ) → 0 < m → 0 < length s → 0 < length (take m s)
take-some m s h l = rw length-take (omega arith)

-- the first m bytes of s have the answer and the file of s
record Same (n number m : ℕ) (s : List ℕ) : Type 0 where
  answer : answer_from n number (take m s) ≡ answer_from n number s
  file : file_from n (take m s) ≡ file_from n s

same_none : (n number m : ℕ) (s : List ℕ) → length s ≤ 0 → Same n number m s
same_none n number m [] h = record { answer = ap (answer_from n number) (take-nil m); file = ap (file_from n) (take-nil m) }
same_none n number m (c ∷ cs) h = absurd (omega arith)

-- so many bytes are more than the frames that may follow n bytes take
module _ (n number m : ℕ) (s : List ℕ) (h : n ≤ 32768) (k : 12 * (32768 - n) < m) (b : 0 < length s) where
  part_some : 0 < length (take m s)
  part_some = take-some m s (omega arith) b

  part_other : is_frame n (first_line s) ≡ false → is_frame n (first_line (take m s)) ≡ false
  part_other e =
      by_test (is_frame n (first_line (take m s)))
      (λ t. ap (is_frame n) (line_ended m s (frame_ended n (first_line (take m s)) t)) ∙ e)
      (λ t. t)

  same_other : is_frame n (first_line s) ≡ false → Same n number m s
  same_other e =
      let t = part_other e in
      record {
        answer = answer_other n (take m s) part_some number t ∙ sym (answer_other n s b number e);
        file = file_other n (take m s) part_some t ∙ sym (file_other n s b e);
      }

  module _ (e : is_frame n (first_line s) ≡ true) where
    given : ℕ
    given = length (data_of (first_line s))

    size : ℕ
    size = length (first_line s)

    -- what the frame takes of the bytes that are left
    record Taken : Type 0 where
      long : size ≡ 10 + 2 * given
      some : 1 ≤ given
      room : n + given ≤ 32768

    taken : Taken
    unfolding size given
    taken =
        let y = frame_inv n s e in
        let g = ap length (framed_data y) in
        record {
          long = let e = ap length (framed_data y) in omega (arith, framed_length y);
          some = omega (arith, y.some);
          room = omega (arith, y.room);
        }

    next_room : 12 * (32768 - (n + given)) < m - size
    next_room = let t = taken in omega (arith, t.long, t.some, t.room)

    line_same : first_line (take m s) ≡ first_line s
    unfolding size
    line_same = let t = taken in line_held m s (omega (arith, t.long, t.some, t.room))

    same_frame : Same (n + given) (number + 1) (m - size) (drop size s) → Same n number m s
    unfolding size given
    same_frame r =
        let t : is_frame n (first_line (take m s)) ≡ true = ap (is_frame n) line_same ∙ e in
        let d : drop size (take m s) ≡ take (m - size) (drop size s) = drop_part size m s in
        record {
          answer =
              answer_frame n (take m s) part_some number t
              ∙ ap (λ (l : List ℕ). answer_from (n + length (data_of l)) (number + 1) (drop (length l) (take m s))) line_same
              ∙ ap (answer_from (n + given) (number + 1)) d
              ∙ r.answer
              ∙ sym (answer_frame n s b number e);
          file =
              file_frame n (take m s) part_some t
              ∙ ap (λ (l : List ℕ). data_of l ++ file_from (n + length (data_of l)) (drop (length l) (take m s))) line_same
              ∙ ap (λ (l : List ℕ). data_of (first_line s) ++ file_from (n + given) l) d
              ∙ ap (λ (l : List ℕ). data_of (first_line s) ++ l) r.file
              ∙ sym (file_frame n s b e);
        }

same : (f n number m : ℕ) (s : List ℕ) → length s ≤ f → n ≤ 32768 → 12 * (32768 - n) < m → Same n number m s
unfolding size given
same zero n number m s l h k = same_none n number m s l
same (suc f) n number m s l h k =
    ⊎_elim (λ z. same_none n number m s z)
    (λ b.
    by_test (is_frame n (first_line s))
    (λ e.
    let t = taken n number m s h k b e in
    same_frame n number m s h k b e
    (same f (n + length (data_of (first_line s))) (number + 1) (m - length (first_line s)) (drop (length (first_line s)) s)
    (omega (arith, length-drop (length (first_line s)) s, line-some s b))
    (omega (arith, t.room))
    (next_room n number m s h k b e)))
    (λ e. same_other n number m s h k b e))
    (le_or_lt (length s) 0)

-- ---- how long the file is

frame_room : (n : ℕ) (l : List ℕ) → is_frame n l ≡ true → n + length (data_of l) ≤ 32768
unfolding is_frame most
frame_room n l h =
    let d : ℕ = length (data_of l) in
    let a = and_right (starts_at n l && are_bytes (drop 9 l)) _ h in
    leb-true (n + d) 32768 (and_right (leb 1 d && leb d 32) (leb (n + d) 32768) a)

all_fit : (n : ℕ) (ls : List (List ℕ)) → n ≤ 32768 → n + length (flatten (frames_from n ls)) ≤ 32768
unfolding frames_from flatten
all_fit n [] h = omega arith
all_fit n (l ∷ ls) h =
    by_test (is_frame n l)
    (λ e.
    let d : List ℕ = data_of l in
    let r = frame_room n l e in
    simp e (omega (arith, length-append d (flatten (frames_from (n + length d) ls)), all_fit (n + length d) ls r)))
    (λ e. simp e (omega arith))

pub file_fits : (s : List ℕ) → length (file_of s) ≤ 32768
unfolding file_of
file_fits s = omega (arith, all_fit 0 (lines_of s) (omega arith))

-- ---- the cut

module _ (m : ℕ) (k : 12 * 32768 < m) (s : List ℕ) where
  all_same : Same 0 1 m s
  all_same = same (length s) 0 1 m s (omega arith) (omega arith) (omega arith)

  pub cut_answer : frames_of (take m s) ≡ frames_of s
  cut_answer = answer_start (take m s) ∙ all_same.answer ∙ sym (answer_start s)

  pub cut_file : file_of (take m s) ≡ file_of s
  cut_file = file_start (take m s) ∙ all_same.file ∙ sym (file_start s)
