use Rattle.lookup.specs.Kinds.{told_in, table_of}
use Rattle.taplinen.specs.Batches.{batch_places, value_places}
use Rattle.taplinen.proofs.batches.taplinen_values.Goals as goal

pub returns : goal.returns
unfolding value_places batch_places told_in table_of
returns c = record { answer = c.ask_each.ensures.answer; workspace = c.ask_each.ensures.workspace; answers = c.ask_each.ensures.answers }
