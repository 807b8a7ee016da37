use mathlib.Core.Path.{sym}
use Rattle.strings.proofs.Spots.{found}
use Rattle.strings.proofs.ahead.text_spot.Goals as goal

pub returns : goal.returns
returns c = sym (found _ _ _ _ c.entry_at-e.ensures.0 c.entry_spot.ensures)
