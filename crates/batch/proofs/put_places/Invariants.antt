use Prim.Native.Nat.{◌-◌, ◌*◌}
use mathlib.Core.Path.{◌≡◌}
use lib.ListN.{length}
use Rattle.strings.specs.inner.Lent.{lent_table}
use Rattle.lookup.specs.Kinds.{told_in}
use Rattle.search.specs.inner.Group.{Lengths}
use Rattle.batch.proofs.Placed.{Writing}
use Rattle.batch.proofs.Groupwise.{Going}
use Rattle.batch.proofs.put_places.Given as goal

abbrev pub invariant-loop-j : goal.invariant-loop-j
invariant-loop-j l = Going (told_in l.kind (lent_table l.checked.table)) l.texts l.initial.answers l.done l.initial.at l.n l.lengths l.hashes l.j l.answers l.at

abbrev pub invariant-loop-at : goal.invariant-loop-at
invariant-loop-at l = record {
  writing : Writing (told_in l.kind (lent_table l.checked.table)) l.texts l.initial.answers (8 * l.done) l.at l.answers;
  lengths : Lengths l.lengths l.hashes l.low;
  picked : length l.picked ≡ 64;
}

abbrev pub decreases-loop-at : goal.decreases-loop-at
decreases-loop-at l = length l.texts - l.at
