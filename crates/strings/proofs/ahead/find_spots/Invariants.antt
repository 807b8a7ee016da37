use mathlib.Core.Path.{◌≡◌}
use lib.ListN.{length}
use Rattle.strings.specs.inner.Lent.{lent_table}
use Rattle.strings.specs.inner.Ahead.{Stood}
use Rattle.strings.proofs.ahead.find_spots.Given as goal

abbrev pub invariant-loop-i : goal.invariant-loop-i
invariant-loop-i l = record {
  long : length l.spots ≡ 64;
  stood : Stood (lent_table l.table) l.k l.j l.i l.spots;
}
