use Rattle.lookup.specs.Kinds.{told_in, table_of}
use Rattle.taplinen.specs.Questions.{text_answer, value_answer}
use Rattle.taplinen.proofs.questions.taplinen_value.Goals as goal

pub returns : goal.returns
unfolding value_answer text_answer told_in table_of
returns c = record { answer = c.ask.ensures.answer; workspace = c.ask.ensures.workspace }
