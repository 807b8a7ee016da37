-- What crosses to C: the numbers and values of each answer (FORMAT, "Refusals", "Questions").
use Rattle.std.specs.Prelude.{ℕ}
use Rattle.std.specs.Float.Ieee.{of_bits}
use Rattle.std.specs.Float.{binary64}
use Rattle.verdict.specs.Verdict.{Verdict}
use Rattle.verdict.specs.Verdict.{Accepted, Refused}
use Rattle.layout.specs.declared.Header.{Header}
use Rattle.taplinen.specs.declared.answer.Answer.{Answer}
use Rattle.taplinen.specs.declared.header.HeaderReport.{HeaderReport}

-- Where nothing is refused: refusal 0, the kind and the value asked for; otherwise the refusal's number and its place as the value.
unfoldable pub answered : Verdict → ℕ → ℕ → Answer
answered Accepted kind value = record { refusal = 0; kind = kind; value = value }
answered (Refused n p) kind value = record { refusal = n; kind = 0; value = p }

-- The header report of an accepted file, with its revision; a refused file's holds the refusal and its place, and 0 elsewhere.
unfoldable pub reported : Verdict → Header → HeaderReport
reported Accepted h = record {
  refusal = 0;
  version = h.version;
  place = 0;
  timestamp = h.timestamp.value;
  timestamp_bits = h.timestamp.bits;
  has_revision = 1;
  revision = h.revision;
}
reported (Refused n p) h = record {
  refusal = n;
  version = 0;
  place = p;
  timestamp = of_bits binary64 0;
  timestamp_bits = 0;
  has_revision = 0;
  revision = 0;
}
