-- What the program writes for what it reads (FORMAT, "Frames").
use Rattle.std.specs.Prelude.{ℕ, List, ◌++◌, length, Result, Ok, Err}
use Rattle.verdict.specs.Checks.{first_fault}
use Rattle.verdict.specs.Verdict.{Verdict, Accepted, Refused}
use Rattle.layout.specs.declared.Edition.TheVariants.{Bits64}
use Rattle.accept.specs.Verdict.{verdict_of}
use Rattle.outline.specs.Outline.{outline_of}
use Rattle.outline.specs.Outlined.{outline_checks}
use Rattle.frames.specs.Frames.{file_of, frames_of}
use Rattle.frames.specs.declared.BadLine.{BadLine}
use Rattle.dcdump.specs.Messages.{bad_line, refused_line, accepted_line}

-- An accepted file: `accepted L` and the outline, or 26, printed as a refusal.
unfoldable pub report_accepted : List ℕ → Verdict → List ℕ
report_accepted b Accepted = accepted_line (length b) ++ outline_of Bits64 b
report_accepted b (Refused r p) = refused_line r p

-- A file: output buffer 65,536 bytes.
unfoldable pub report_file : List ℕ → Verdict → List ℕ
report_file b Accepted = report_accepted b (first_fault (outline_checks Bits64 b 65536))
report_file b (Refused r p) = refused_line r p

-- Lines: all are frames and give a file, workspace 2,048 bytes; or there is a first bad line.
unfoldable pub report_frames : List ℕ → Result ℕ BadLine → List ℕ
report_frames b (Ok n) = report_file b (verdict_of Bits64 b 2048)
report_frames b (Err line) = bad_line line.0

unfoldable pub output_of : List ℕ → List ℕ
output_of input = report_frames (file_of input) (frames_of input)
