use Prim.Native.Nat.{◌-◌}
use Rattle.strings.specs.inner.Lent.{lent_table}
use Rattle.positions.specs.inner.Total.{Between}
use Rattle.positions.proofs.uncarried.first_uncarried.Given as goal

abbrev pub invariant-loop-lo : goal.invariant-loop-lo
invariant-loop-lo l = Between (lent_table l.table) l.lo l.hi

abbrev pub decreases-loop-lo : goal.decreases-loop-lo
decreases-loop-lo l = l.hi - l.lo
