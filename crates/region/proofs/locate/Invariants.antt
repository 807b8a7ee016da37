-- The sample was left of the segment by the loop's end, and each turn goes one segment on.
use Prim.Native.Nat.{◌+◌, ◌-◌}
use mathlib.Core.Path.{◌≡◌}
use Rattle.region.specs.Region.{start_of}
use Rattle.region.proofs.locate.Given as goal

abbrev pub invariant-loop : goal.invariant-loop
invariant-loop l = l.p ≡ start_of l.size l.b l.fn.r.at (l.seg - l.end + l.counter)
