-- What is left to find wrong from bucket k on is what is to be found wrong in all, and the starts of those before it are kept.
use Prim.Native.Nat.{◌-◌, ◌≤◌}
use mathlib.Core.Path.{◌≡◌}
use lib.ListN.{length}
use Rattle.verdict.specs.Checks.{first_fault, each}
use Rattle.layout.specs.Table.{table, bucket_at, bucket_checks}
use Rattle.layout.proofs.Filled.{Filled}
use Rattle.layout.proofs.tables.check_buckets.Given as goal

abbrev pub invariant-loop-k : goal.invariant-loop-k
invariant-loop-k l = let t = table l.b l.at l.n in record {
  inside : l.p ≤ length l.b;
  place : l.p ≡ bucket_at t l.k;
  rest : first_fault (each (bucket_checks t) l.n 0) ≡ first_fault (each (bucket_checks t) (l.n - l.k) l.k);
  filled : Filled (bucket_at t) l.k l.buckets;
}
