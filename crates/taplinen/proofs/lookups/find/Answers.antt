use Rattle.taplinen.proofs.Tables.{told_same}
use Rattle.taplinen.proofs.lookups.find.Goals as goal

pub returns : goal.returns
returns c = told_same _ _ c.asked_table.ensures c.find_text.ensures
