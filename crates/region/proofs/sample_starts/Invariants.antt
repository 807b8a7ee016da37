-- The samples of the segments before s are set, and p is where s starts.
use Prim.Native.Nat.{◌^◌}
use mathlib.Core.Path.{◌≡◌}
use lib.ListN.{length}
use Rattle.region.specs.Region.{start_of}
use Rattle.region.specs.inner.Samples.{Sampled}
use Rattle.region.proofs.sample_starts.Given as goal

abbrev pub invariant-loop-s : goal.invariant-loop-s
invariant-loop-s l = record {
  place : l.p ≡ start_of l.size l.b l.r.at l.s;
  sampled : Sampled (start_of l.size l.b l.r.at) (2 ^ l.r.shift) l.s l.segments;
  long : length l.segments ≡ 1024;
}
