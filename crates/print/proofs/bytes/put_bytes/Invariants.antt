use lib.ListN.{drop}
use Rattle.print.proofs.Puts.{Left}
use Rattle.print.proofs.bytes.put_bytes.Given as goal

abbrev pub invariant-loop-c : goal.invariant-loop-c
invariant-loop-c l = Left l.initial.out l.at l.s l.p (drop l.c-index l.s) l.out
