-- How long the output is: at most `accepted 32768`, a newline and 65536 bytes. Assumes nothing.
use Prim.Native.Nat.{ℕ, zero, suc, ◌+◌, ◌/◌, ◌%◌, ◌^◌, ◌≤◌, ◌<◌}
use native.Mathlib.Nat.{pow-suc, div-lt_iff_lt-mul}
use native.Mathlib.Omega.{arith}
use mathlib.Core.Path.{◌≡◌, refl}
use mathlib.Core.Logic.{⊎_elim}
use mathlib.Core.List.{List, [], ◌∷◌}
use borrow.Author.Tests.{lt-ltb, le-ltb}
use lib.ListN.{length, length-append}
use Rattle.laws.proofs.Order.{le_or_lt}
use Rattle.std.specs.Prelude.{Result, Ok, Err}
use Rattle.verdict.specs.Checks.{first_fault}
use Rattle.verdict.specs.Verdict.{Verdict, Accepted, Refused}
use Rattle.verdict.proofs.Laws.{clean_inv}
use Rattle.layout.specs.declared.Edition.TheVariants.{Bits64}
use Rattle.print.specs.Text.{decimal_in, decimal}
use Rattle.accept.specs.Verdict.{verdict_of}
use Rattle.outline.specs.Outline.{outline_of}
use Rattle.outline.specs.Outlined.{outline_checks}
use Rattle.frames.specs.Frames.{file_of, frames_of}
use Rattle.frames.specs.declared.BadLine.{BadLine}
use Rattle.frames.proofs.Cut.{file_fits}
use Rattle.dcdump.specs.Messages.{bad_line, refused_line, accepted_line}
use Rattle.dcdump.specs.Output.{report_accepted, report_file, report_frames, output_of}

-- ---- decimal numbers

one_digit : (n x : ℕ) → x < 10 → length (decimal_in (suc n) x) ≡ 1
unfolding decimal_in
one_digit n x h = simp (lt-ltb x 10 h)

more_digits : (n x : ℕ) → 10 ≤ x → length (decimal_in (suc n) x) ≡ length (decimal_in n (x / 10)) + 1
unfolding decimal_in
more_digits n x h = simp (le-ltb x 10 h) (length-append (decimal_in n (x / 10)) ((48 + x % 10) ∷ []))

-- no more than there is room for
in_room : (n x : ℕ) → length (decimal_in n x) ≤ n
unfolding decimal_in
in_room zero x = omega arith
in_room (suc n) x =
    ⊎_elim (λ h. omega (arith, more_digits n x h, in_room n (x / 10))) (λ h. omega (arith, one_digit n x h)) (le_or_lt 10 x)

-- and k below the power k of 10
few-digits : (n k x : ℕ) → x < 10 ^ suc k → length (decimal_in n x) ≤ suc k
unfolding decimal_in
few-digits zero k x h = omega arith
few-digits (suc n) zero x h = omega (arith, one_digit n x h)
few-digits (suc n) (suc k) x h =
    let l : x / 10 < 10 ^ suc k = (div-lt_iff_lt-mul {k = 10} (omega arith)).1 (rw (pow-suc 10 (suc k)) at h) in
    ⊎_elim (λ g. omega (arith, more_digits n x g, few-digits n k (x / 10) l)) (λ g. omega (arith, one_digit n x g)) (le_or_lt 10 x)

any_decimal : (x : ℕ) → length (decimal x) ≤ 20
unfolding decimal
any_decimal x = in_room 20 x

file_decimal : (x : ℕ) → x ≤ 32768 → length (decimal x) ≤ 5
unfolding decimal
file_decimal x h = few-digits 20 4 x (omega arith)

-- ---- the lines

bad_long : (n : ℕ) → length (bad_line n) ≤ 65551
unfolding bad_line
bad_long n = simp length-append (omega (arith, any_decimal n))

refused-long : (r p : ℕ) → length (refused_line r p) ≤ 65551
unfolding refused_line
refused-long r p = simp length-append (omega (arith, any_decimal r, any_decimal p))

accepted-long : (l : ℕ) → l ≤ 32768 → length (accepted_line l) ≤ 15
unfolding accepted_line
accepted-long l h = simp length-append (omega (arith, file_decimal l h))

-- ---- the whole

-- no 26: the outline fits
pub outline-fits : (b : List ℕ) (room : ℕ) → first_fault (outline_checks Bits64 b room) ≡ Accepted → length (outline_of Bits64 b) ≤ room
unfolding outline_checks
outline-fits b room e = (clean_inv 26 (length (outline_of Bits64 b)) (length (outline_of Bits64 b) ≤ room) _ [] e).0

shown-long : (b : List ℕ) (v : Verdict) → length b ≤ 32768 → (v ≡ Accepted → length (outline_of Bits64 b) ≤ 65536) → length (report_accepted b v) ≤ 65551
unfolding report_accepted
shown-long b Accepted h f = omega (arith, length-append (accepted_line (length b)) (outline_of Bits64 b), accepted-long (length b) h, f refl)
shown-long b (Refused r p) h f = refused-long r p

judged_long : (b : List ℕ) (v : Verdict) → length b ≤ 32768 → length (report_file b v) ≤ 65551
unfolding report_file
judged_long b Accepted h = shown-long b (first_fault (outline_checks Bits64 b 65536)) h (outline-fits b 65536)
judged_long b (Refused r p) h = refused-long r p

framed_long : (b : List ℕ) (f : Result ℕ BadLine) → length b ≤ 32768 → length (report_frames b f) ≤ 65551
unfolding report_frames
framed_long b (Ok n) h = judged_long b (verdict_of Bits64 b 2048) h
framed_long b (Err line) h = bad_long line.0

pub output_long : (input : List ℕ) → length (output_of input) ≤ 65551
unfolding output_of
output_long input = framed_long (file_of input) (frames_of input) (file_fits input)
