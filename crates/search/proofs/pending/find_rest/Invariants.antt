use Prim.Native.Nat.{ℕ, ◌<◌}
use lib.ListN.{get_or}
use Rattle.layout.specs.Table.{Table}
use Rattle.search.specs.inner.Group.{Looked, NearAt}
use Rattle.search.proofs.pending.find_rest.Given as goal

-- whatever table it is, those before i are found in it
abbrev pub invariant-loop-i : goal.invariant-loop-i
invariant-loop-i l = (t : Table) → Looked t l.hashes l.n l.initial.low l.which l.m 0 → ((j : ℕ) → j < l.m → NearAt t l.hashes (get_or l.which j 0) (get_or l.found j 0)) → Looked t l.hashes l.n l.low l.which l.m l.i
