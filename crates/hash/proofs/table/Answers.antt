use mathlib.Core.Path.{refl}
use Rattle.hash.specs.Table.{T, entry_of}
use Rattle.hash.proofs.table.Goals as goal

pub returns : goal.returns
unfolding T entry_of
returns c = record { at = λ k h. refl }
