use Rattle.prefetch.specs.inner.Batch.{AllSeen, Stay}
use Rattle.prefetch.proofs.steps.load_before.Given as goal

abbrev pub invariant-loop-j : goal.invariant-loop-j
invariant-loop-j l = AllSeen l.b l.j l.texts × Stay l.initial.texts l.texts
