use Rattle.prefetch.specs.inner.Slots.{Slotted}
use Rattle.layout.specs.declared.Edition.TheVariants.{Bits64}
use Rattle.prefetch.proofs.slots.take_texts.Given as goal

abbrev pub invariant-loop-e : goal.invariant-loop-e
invariant-loop-e l = Slotted Bits64 l.b l.first l.el l.e l.n l.slots
