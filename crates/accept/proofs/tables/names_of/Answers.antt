use mathlib.Core.Path.{refl}
use Rattle.layout.specs.declared.Edition.TheVariants.{Bits64}
use Rattle.accept.specs.inner.Held.{name_strings}
use Rattle.accept.proofs.Held.{names_table, names_held}
use Rattle.accept.proofs.tables.names_of.Goals as goal

pub invariant_of-result : goal.invariant_of-result
unfolding name_strings
invariant_of-result c = record { held = names_held Bits64 _ _ c.requires }

pub returns : goal.returns
unfolding name_strings
returns c = (names_table Bits64 _ _ c.requires, refl)
