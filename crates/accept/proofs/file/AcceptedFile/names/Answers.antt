use Rattle.layout.specs.declared.Edition.TheVariants.{Bits64}
use Rattle.accept.proofs.Accepted.{names-clean}
use Rattle.accept.proofs.Held.{clean_same}
use Rattle.accept.proofs.file.AcceptedFile.names.Goals as goal

pub invariant_of-result : goal.invariant_of-result
invariant_of-result c = record { checked = clean_same c.names_of.ensures.0 (names-clean Bits64 _ _ c.args.self.now.accepted) }
