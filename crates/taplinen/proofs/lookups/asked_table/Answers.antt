use Rattle.lookup.specs.Kinds.{table_of}
use Rattle.taplinen.proofs.lookups.asked_table.Goals as goal

pub returns-in-Name : goal.returns-in-Name
unfolding table_of
returns-in-Name c = rw c.in-Name.is c.names.ensures.0

pub returns-in-Value : goal.returns-in-Value
unfolding table_of
returns-in-Value c = rw c.in-Value.is c.values.ensures.0
