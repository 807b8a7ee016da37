use Rattle.layout.specs.declared.Edition.TheVariants.{Bits64}
use Rattle.path.proofs.Lookups.{Sofar}
use Rattle.path.proofs.names.find_names.Given as goal

abbrev pub invariant-loop-count : goal.invariant-loop-count
invariant-loop-count l = Sofar Bits64 l.checked.table.file.now l.path l.count l.at l.indices
