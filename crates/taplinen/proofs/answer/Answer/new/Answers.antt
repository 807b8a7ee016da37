use mathlib.Core.Path.{refl}
use Rattle.taplinen.specs.Answers.{answered}
use Rattle.taplinen.proofs.answer.Answer.new.Goals as goal

pub returns : goal.returns
unfolding answered
returns c = refl
