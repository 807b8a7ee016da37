use Prim.Native.Nat.{◌*◌, ◌≤◌}
use mathlib.Core.Path.{◌≡◌}
use Rattle.region.specs.Region.{start_of}
use Rattle.positions.specs.inner.Packed.{begun_before}
use Rattle.positions.proofs.packing.count_begun.Given as goal

abbrev pub invariant-loop-seg : goal.invariant-loop-seg
invariant-loop-seg l = record {
  place : l.p ≡ start_of 2 l.b l.fn.chars.at l._seg;
  count : l.n ≡ begun_before l.b l.fn.chars.at l._seg;
  few : l.n ≤ l._seg * 65535;
}
