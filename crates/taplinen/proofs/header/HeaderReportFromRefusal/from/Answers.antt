use Rattle.taplinen.specs.Answers.{reported}
use Rattle.taplinen.proofs.header.HeaderReportFromRefusal.from.Goals as goal

pub returns : goal.returns
unfolding reported
returns c = λ h. cc c.number.ensures
