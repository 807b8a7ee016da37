-- The samples of the segments before s are set, p is where s starts, and n is what is used before it.
use Prim.Native.Nat.{◌^◌}
use mathlib.Core.Path.{◌≡◌}
use lib.ListN.{length}
use Rattle.region.specs.Region.{start_of, before_of}
use Rattle.region.specs.inner.Samples.{Sampled}
use Rattle.region.proofs.sample_counts.Given as goal

abbrev pub invariant-loop-s : goal.invariant-loop-s
invariant-loop-s l = record {
  place : l.p ≡ start_of l.size l.b l.r.at l.s;
  before : l.n ≡ before_of l.size l.b l.r.at l.s;
  sampled : Sampled (before_of l.size l.b l.r.at) (2 ^ l.r.shift) l.s l.counts;
  long : length l.counts ≡ 1024;
}
