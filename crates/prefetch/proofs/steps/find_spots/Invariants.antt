use Rattle.prefetch.specs.inner.Batch.{AllSpots, AllFit}
use lib.ListN.{length}
use mathlib.Core.Path.{◌≡◌}
use Rattle.prefetch.proofs.steps.find_spots.Given as goal

abbrev pub invariant-loop-j : goal.invariant-loop-j
invariant-loop-j l = (length l.texts ≡ 64) × AllSpots l.b l.chars.at l.slots l.j l.texts × AllFit l.b l.j l.texts
