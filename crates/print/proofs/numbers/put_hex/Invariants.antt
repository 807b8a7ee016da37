use Rattle.print.specs.Text.{hex_of}
use Rattle.print.proofs.Puts.{Left}
use Rattle.print.proofs.numbers.put_hex.Given as goal

abbrev pub invariant-loop-i : goal.invariant-loop-i
invariant-loop-i l = Left l.initial.out l.at (hex_of l.n l.x) l.p (hex_of l.i l.x) l.out
