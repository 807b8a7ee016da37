use Prim.Native.Nat.{◌+◌, ◌-◌, ◌*◌}
use Rattle.laws.proofs.Halving.{Powers}
use Rattle.search.proofs.rounds.Given as goal

abbrev pub invariant-loop-p : goal.invariant-loop-p
invariant-loop-p l = Powers l.n l.k l.p

abbrev pub decreases-loop-p : goal.decreases-loop-p
decreases-loop-p l = 2 * l.n + 2 - l.p
