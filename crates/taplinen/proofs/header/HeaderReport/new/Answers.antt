use mathlib.Core.Path.{refl}
use native.Mathlib.Omega.{arith}
use Rattle.taplinen.specs.Answers.{reported}
use Rattle.taplinen.proofs.header.HeaderReport.new.Goals as goal

pub overflow_cast-result : goal.overflow_cast-result
overflow_cast-result c = omega (arith, c.requires.0)

pub overflow_cast-result-2 : goal.overflow_cast-result-2
overflow_cast-result-2 c = omega (arith, c.requires.1)

pub returns : goal.returns
unfolding reported
returns c = refl
