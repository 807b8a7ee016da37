use Prim.Native.Nat.{ℕ, ◌+◌}
use Rattle.layout.specs.Table.{hash_of}
use Rattle.strings.specs.inner.Lent.{lent_table}
use Rattle.search.specs.inner.LowerBound.{or_last}
use Rattle.search.proofs.Nearby.{Counting}
use Rattle.search.proofs.near.count_few.Given as goal

abbrev pub invariant-loop-i : goal.invariant-loop-i
invariant-loop-i l = Counting (λ (i : ℕ). hash_of (lent_table l.table) l.k (l.w + or_last i l.m)) l.h l.i l.c
