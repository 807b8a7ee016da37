use Rattle.layout.specs.declared.Edition.TheVariants.{Bits64}
use Rattle.nodes.proofs.Climbs.{Climbed}
use Rattle.nodes.proofs.node.rising.Given as goal

abbrev pub invariant-loop-i : goal.invariant-loop-i
invariant-loop-i l = Climbed Bits64 l.b l.q l.i l.last
