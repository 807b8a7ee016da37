-- What is left to find wrong from segment s on is what is to be found wrong in all.
use Prim.Native.Nat.{◌-◌, ◌≤◌}
use mathlib.Core.Path.{◌≡◌}
use lib.ListN.{length}
use Rattle.verdict.specs.Checks.{first_fault, each}
use Rattle.region.specs.Region.{start_of}
use Rattle.region.specs.Checks.{segment_checks, region_checks}
use Rattle.region.proofs.lay.Given as goal

abbrev pub invariant-loop-s : goal.invariant-loop-s
invariant-loop-s l = record {
  inside : l.p ≤ length l.b;
  place : l.p ≡ start_of l.size l.b l.at l.s;
  rest : first_fault (region_checks l.size l.b l.at) ≡ first_fault (each (segment_checks l.size l.b l.at) (l.n - l.s) l.s);
}
