use Rattle.print.proofs.Puts.{put_then}
use native.Mathlib.Omega.{arith}
use Rattle.dcdump.proofs.messages.put_line.Goals as goal

pub returns : goal.returns
returns c = put_then (omega arith) c.put_bytes-p.ensures (put_then (omega arith) c.put_decimal-q.ensures c.put.ensures)
