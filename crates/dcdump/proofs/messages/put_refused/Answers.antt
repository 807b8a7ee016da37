use Rattle.print.proofs.Puts.{put_then}
use Rattle.dcdump.specs.Messages.{refused_line}
use native.Mathlib.Omega.{arith}
use Rattle.dcdump.proofs.messages.put_refused.Goals as goal

pub returns : goal.returns
unfolding refused_line
returns c = rw (← c.number-number.ensures) (put_then (omega arith) c.put_bytes-p.ensures (put_then (omega arith) c.put_decimal-q.ensures c.put_line.ensures))
