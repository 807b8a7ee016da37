use Rattle.layout.specs.Table.{entry_hash}
use Rattle.strings.proofs.fields.hash.Goals as goal

pub returns : goal.returns
unfolding entry_hash
returns c = c.u32_at.ensures
