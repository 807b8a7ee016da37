use Rattle.print.proofs.Puts.{put_then}
use Rattle.dcdump.specs.Messages.{accepted_line}
use native.Mathlib.Omega.{arith}
use Rattle.dcdump.proofs.dump.put_outline.Goals as goal

pub returns : goal.returns
unfolding accepted_line
returns c = put_then (omega arith) c.put_line-p.ensures c.put_bytes.ensures
