-- What is not read changes nothing: an input that is longer has the output of its part that is read. Assumes nothing.
use mathlib.Core.Path.{◌≡◌, refl, ap, ◌∙◌}
use mathlib.Core.List.{List}
use Prim.Native.Nat.{ℕ}
use native.Mathlib.Omega.{arith}
use lib.ListN.{take}
use Rattle.std.specs.Prelude.{Result}
use Rattle.frames.specs.Frames.{file_of, frames_of}
use Rattle.frames.specs.declared.BadLine.{BadLine}
use Rattle.frames.proofs.Cut.{cut_answer, cut_file}
use Rattle.dcdump.specs.declared.buffers.TheConstants.{INPUT}
use Rattle.dcdump.specs.inner.Reading.{read_most}
use Rattle.dcdump.specs.Output.{report_frames, output_of}

-- the program's buffer for the input is that long
pub input-read_most : INPUT ≡ read_most
input-read_most = refl

pub cut_output : (input : List ℕ) → output_of (take read_most input) ≡ output_of input
unfolding output_of
cut_output input =
    ap (λ (f : Result ℕ BadLine). report_frames (file_of (take read_most input)) f) (cut_answer read_most (omega arith) input)
    ∙ ap (λ (b : List ℕ). report_frames b (frames_of input)) (cut_file read_most (omega arith) input)
