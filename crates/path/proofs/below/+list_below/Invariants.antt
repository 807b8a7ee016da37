use lib.ListN.{length}
use Rattle.layout.specs.declared.Edition.TheVariants.{Bits64}
use Rattle.path.specs.inner.Written.{Wrote}
use Rattle.path.proofs.Turns.{passed}
use Rattle.path.proofs.below.+list_below.Given as goal

abbrev pub decreases-list_below : goal.decreases-list_below
decreases-list_below l = length l.wanted.now

abbrev pub invariant-loop-j : goal.invariant-loop-j
invariant-loop-j l = Wrote l.initial.list l.k (passed Bits64 l.nodes.file.now l.name l.rest l.c.first l.j) l.m l.list
