use Rattle.layout.specs.Table.{entry_length}
use Rattle.strings.proofs.fields.length.Goals as goal

pub returns : goal.returns
unfolding entry_length
returns c = c.u32_at.ensures.0
