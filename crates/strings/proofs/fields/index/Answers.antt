use Rattle.layout.specs.Table.{entry_index}
use Rattle.strings.proofs.fields.index.Goals as goal

pub returns : goal.returns
unfolding entry_index
returns c = c.u32_at.ensures.0
