use Rattle.search.specs.inner.Group.{Gathered}
use Rattle.search.proofs.pending.gather.Given as goal

abbrev pub invariant-loop-i : goal.invariant-loop-i
invariant-loop-i l = Gathered l.hashes l.which l.i l.rest
