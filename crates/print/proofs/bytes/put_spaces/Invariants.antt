use Prim.Native.Nat.{◌-◌}
use lib.ListN.{replicate}
use Rattle.print.proofs.Puts.{Left}
use Rattle.print.proofs.bytes.put_spaces.Given as goal

abbrev pub invariant-loop : goal.invariant-loop
invariant-loop l = Left l.initial.out l.at (replicate l.n 32) l.p (replicate (l.n - l.counter) 32) l.out
