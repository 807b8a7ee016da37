-- What each way through the code writes is the definition's. Assumes nothing.
use Prim.Native.Nat.{ℕ, ◌≤◌}
use native.Mathlib.Omega.{arith}
use mathlib.Core.Path.{◌≡◌, sym, ap, ◌∙◌}
use mathlib.Core.List.{List, ◌++◌}
use lib.Dec.{eqb}
use lib.ListN.{length, take, drop}
use lib.Seq.{take_at}
use Rattle.std.specs.Prelude.{Result, Ok, Err}
use Rattle.laws.specs.inner.Lists.{splice}
use Rattle.verdict.specs.Checks.{first_fault}
use Rattle.verdict.specs.Verdict.{Verdict, Accepted}
use Rattle.layout.specs.declared.Edition.TheVariants.{Bits64}
use Rattle.print.specs.inner.Put.{Put}
use Rattle.print.proofs.Puts.{put_same, put_length, put_front}
use Rattle.accept.specs.Verdict.{verdict_of}
use Rattle.outline.specs.Outline.{outline_of}
use Rattle.outline.specs.Outlined.{outline_checks, outline_after}
use Rattle.frames.specs.Frames.{frames_from, file_of, frames_of}
use Rattle.frames.specs.declared.BadLine.{BadLine}
use Rattle.frames.specs.Lines.{lines_of}
use Rattle.frames.proofs.Tests.{by_test}
use Rattle.frames.proofs.Cut.{file_fits}
use Rattle.dcdump.specs.Messages.{bad_line, accepted_line}
use Rattle.dcdump.specs.Output.{report_accepted, report_file, report_frames, output_of}
use Rattle.dcdump.proofs.Lengths.{outline-fits, output_long}

-- a verdict w with the buffer that there was is reported as that of a buffer of the stated size
pub reported : (f : Verdict → List ℕ) (verdict : ℕ → Verdict) {room most : ℕ} {w : Verdict} → verdict room ≡ w → most ≡ room → f w ≡ f (verdict most)
reported f verdict e s = sym (ap f (ap verdict s ∙ e))

-- ---- an accepted file

-- the text that was written, at its length
outline-text : (b text text' : List ℕ) (n : ℕ) (v : Verdict) → text' ≡ outline_after Bits64 b text v → v ≡ Accepted → n ≡ length (outline_of Bits64 b) → take n text' ≡ outline_of Bits64 b
unfolding outline_after
outline-text b text text' n v e f l =
    ap (take n) (e ∙ ap (outline_after Bits64 b text) f) ∙ take_at (outline_of Bits64 b) (drop (length (outline_of Bits64 b)) text) n (sym l)

module _ (b : List ℕ) (room : ℕ) (s : 65536 ≡ room) {n : ℕ} (g : (first_fault (outline_checks Bits64 b room) ≡ Accepted) × (n ≡ length (outline_of Bits64 b))) where
  pub shown-fits : (text : List ℕ) → length text ≡ room → n ≤ length text
  shown-fits text h = omega (arith, outline-fits b room g.0, g.1)

  pub shown-accepted : (text text' : List ℕ) {v : Verdict} → text' ≡ outline_after Bits64 b text v → v ≡ Accepted
      → accepted_line (length b) ++ take n text' ≡ report_accepted b (first_fault (outline_checks Bits64 b 65536))
  unfolding report_accepted
  shown-accepted text text' {v} h f =
      ap (λ (t : List ℕ). accepted_line (length b) ++ t) (outline-text b text text' n v h f g.1)
      ∙ reported (report_accepted b) (λ (r : ℕ). first_fault (outline_checks Bits64 b r)) g.0 s

-- ---- an input

file_count : (input : List ℕ) {n : ℕ} → frames_of input ≡ Ok n → n ≡ length (file_of input)
unfolding frames_of
file_count input e =
    by_test (eqb (length (frames_from 0 (lines_of input))) (length (lines_of input)))
    (λ t. let w = simp t at e in cc)
    (λ t. let w = simp t at e in let z : ◌≡◌ {A = ℕ} 0 1 = cc in absurd (omega arith))

module _ (input : List ℕ) (n : ℕ) {f : Result ℕ BadLine} (e : f ≡ frames_of input) (g : f ≡ Ok n) where
  pub file_inside : n ≤ 32768
  file_inside = omega (arith, file_count input (sym e ∙ g), file_fits input)

  -- the file that the frames gave, at its length
  file_text : (d d' : List ℕ) → d' ≡ splice d 0 (file_of input) → take n d' ≡ file_of input
  unfolding splice
  file_text d d' h = ap (take n) h ∙ take_at (file_of input) _ n (sym (file_count input (sym e ∙ g)))

  pub framed_file : (d d' : List ℕ) → d' ≡ splice d 0 (file_of input) → report_file (take n d') (verdict_of Bits64 (take n d') 2048) ≡ output_of input
  unfolding output_of report_frames
  framed_file d d' h =
      ap (λ (b : List ℕ). report_file b (verdict_of Bits64 b 2048)) (file_text d d' h) ∙ sym (ap (report_frames (file_of input)) (sym e ∙ g))

pub framed_bad : (input : List ℕ) {f : Result ℕ BadLine} {line : BadLine} → f ≡ frames_of input → f ≡ Err line → bad_line line.0 ≡ output_of input
unfolding output_of report_frames
framed_bad input e g = sym (ap (report_frames (file_of input)) (sym e ∙ g))

-- all of it, at the front of a buffer that has room for it
pub output_whole : (input : List ℕ) {s d d' : List ℕ} {r : ℕ} → s ≡ output_of input → 65551 ≤ length d → Put d 0 s r d'
    → (r ≡ length (output_of input)) × (d' ≡ output_of input ++ drop (length (output_of input)) d)
output_whole input e h a =
    let l = output_long input in
    let p = put_same e a in
    (put_length p (omega arith), put_front p (omega arith))
