use Rattle.batch.specs.inner.Groups.{SameLow}
use Rattle.batch.proofs.group.read_ends.Given as goal

abbrev pub invariant-loop-j : goal.invariant-loop-j
invariant-loop-j l = SameLow l.initial.low l.low
