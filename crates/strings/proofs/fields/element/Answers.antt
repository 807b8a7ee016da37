use Rattle.layout.specs.Table.{entry_element}
use Rattle.strings.proofs.fields.element.Goals as goal

pub returns : goal.returns
unfolding entry_element
returns c = c.u16_at.ensures
