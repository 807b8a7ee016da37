use Rattle.layout.specs.Table.{entry_segment}
use Rattle.strings.proofs.fields.segment.Goals as goal

pub returns : goal.returns
unfolding entry_segment
returns c = c.u16_at.ensures
