use mathlib.Core.Path.{refl}
use Rattle.laws.proofs.Zeros.{zeros}
use Rattle.nodes.proofs.doubts.Doubts.new.Goals as goal

pub invariant_of-result : goal.invariant_of-result
invariant_of-result c = record { long = refl; sure = λ z i. zeros 4096 i }

pub returns : goal.returns
returns c = λ i. zeros 4096 i
