use mathlib.Core.Path.{refl}
use Rattle.layout.specs.declared.Edition.TheVariants.{Bits64}
use Rattle.nodes.specs.inner.Held.{value_strings}
use Rattle.accept.proofs.Held.{values-table, values_held}
use Rattle.accept.proofs.tables.values_of.Goals as goal

pub invariant_of-result : goal.invariant_of-result
unfolding value_strings
invariant_of-result c = record { held = values_held Bits64 _ _ c.requires }

pub returns : goal.returns
unfolding value_strings
returns c = (values-table Bits64 _ _ c.requires, refl)
