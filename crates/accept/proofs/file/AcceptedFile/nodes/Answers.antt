use Rattle.layout.specs.declared.Edition.TheVariants.{Bits64}
use Rattle.accept.proofs.Accepted.{nodes-clean}
use Rattle.accept.proofs.Held.{tree_ready}
use Rattle.accept.proofs.file.AcceptedFile.nodes.Goals as goal

pub invariant_of-result : goal.invariant_of-result
invariant_of-result c = record { ready = tree_ready Bits64 _ _ c.args.self.now.fits (nodes-clean Bits64 _ _ c.args.self.now.accepted) }
