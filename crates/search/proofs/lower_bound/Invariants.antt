use Rattle.laws.specs.Halving.{halving}
use Rattle.laws.specs.inner.Halfway.{Halfway}
use Rattle.layout.specs.Table.{entries, hash_of}
use Rattle.strings.specs.inner.Lent.{lent_table}
use Rattle.search.proofs.lower_bound.Given as goal

abbrev pub invariant-loop-lo : goal.invariant-loop-lo
invariant-loop-lo l = Halfway (hash_of (lent_table l.table) l.k) (entries (lent_table l.table) l.k) l.h
    (halving (hash_of (lent_table l.table) l.k) l.h l.initial.left 0 (entries (lent_table l.table) l.k)) l.left l.lo l.hi

-- the number that falls: it starts at the least k with 2 to the k above the bucket's count
abbrev pub decreases-loop-lo : goal.decreases-loop-lo
decreases-loop-lo l = l.left
