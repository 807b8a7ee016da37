use Rattle.taplinen.proofs.Tables.{answers_same}
use Rattle.taplinen.proofs.lookups.find_texts.Goals as goal

pub returns : goal.returns
returns c = record { answer = c.find_each.ensures.answer; answers = answers_same _ _ _ _ c.asked_table.ensures c.find_each.ensures.answers }
