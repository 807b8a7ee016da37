use Prim.Native.Nat.{◌-◌}
use Rattle.strings.specs.inner.Lent.{lent_table}
use Rattle.strings.proofs.Differing.{Rounds}
use Rattle.strings.proofs.apart.apart_until.Given as goal

abbrev pub invariant-loop-done : goal.invariant-loop-done
invariant-loop-done l = Rounds (lent_table l.table) l.k l.from l.done l.clear l.end

abbrev pub decreases-loop-done : goal.decreases-loop-done
decreases-loop-done l = l.clear - l.done
