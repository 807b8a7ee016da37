-- The sample was left of the segment by the loop's end, and each turn goes one segment on: p is where that one starts, and n is what is used
-- before it.
use Prim.Native.Nat.{◌+◌, ◌-◌}
use mathlib.Core.Path.{◌≡◌}
use Rattle.region.specs.Region.{start_of, before_of}
use Rattle.region.proofs.number.Given as goal

abbrev pub invariant-loop : goal.invariant-loop
invariant-loop l = let s = l.seg - l.end + l.counter in record {
  place : l.p ≡ start_of l.size l.b l.fn.r.at s;
  before : l.n ≡ before_of l.size l.b l.fn.r.at s;
}
