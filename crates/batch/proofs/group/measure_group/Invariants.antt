use mathlib.Core.Path.{◌≡◌}
use Rattle.batch.specs.inner.Groups.{stands_at, Group}
use Rattle.batch.proofs.group.measure_group.Given as goal

abbrev pub invariant-loop-n : goal.invariant-loop-n
invariant-loop-n l = record { group : Group l.texts l.at l.n l.lengths l.hashes; stands : l.p ≡ stands_at l.at l.lengths l.n }
