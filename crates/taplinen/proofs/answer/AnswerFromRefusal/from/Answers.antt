use Rattle.taplinen.specs.Answers.{answered}
use Rattle.taplinen.proofs.answer.AnswerFromRefusal.from.Goals as goal

pub returns : goal.returns
unfolding answered
returns c = cc c.number.ensures
