use mathlib.Core.Path.{sym, ◌∙◌}
use Rattle.verdict.proofs.Laws.{tells_no}
use Rattle.strings.proofs.Spots.{spot_out}
use Rattle.positions.proofs.Laws.{spotted}
use Rattle.keys.proofs.Only.{position_resolves}
use Rattle.keys.proofs.Laws.{listed-text}
use Rattle.keys.proofs.special.listed_is.Goals as goal

pub returns-in_default : goal.returns-in_default
returns-in_default c = tells_no (λ e. spot_out _ _ _ _ (sym c.listed_spot.ensures ∙ c.in_default.is) (position_resolves _ c.args.checked.now.checked _ c.requires.0 c.requires.1))

pub bears-requires : goal.bears-requires
bears-requires c = (spotted c.args.checked.now.table.held _ c.listed_spot.ensures c.in-Some.is).fits

pub returns : goal.returns
returns c = listed-text _ _ _ _ _
    (spotted c.args.checked.now.table.held _ c.listed_spot.ensures c.in-Some.is) c.bears.ensures
