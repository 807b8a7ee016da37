use Prim.Native.Nat.{◌-◌}
use lib.ListN.{length}
use Rattle.hash.specs.Hash.{bucket_of}
use Rattle.strings.specs.inner.Lent.{lent_table}
use Rattle.search.specs.inner.LowerBound.{Searching}
use Rattle.search.proofs.pending.finish.Given as goal

abbrev pub invariant-loop-x : goal.invariant-loop-x
invariant-loop-x l = Searching (lent_table l.table) (bucket_of (length l.table.buckets.now) l.h) l.h l.x

abbrev pub decreases-loop-x : goal.decreases-loop-x
decreases-loop-x l = l.x.hi - l.x.lo
