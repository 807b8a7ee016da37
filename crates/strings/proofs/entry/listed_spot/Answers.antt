use mathlib.Core.Path.{refl, ◌∙◌}
use Rattle.strings.proofs.Places.{listed-segment-at, listed-element-at}
use Rattle.strings.proofs.entry.listed_spot.Goals as goal

pub spot_to-requires : goal.spot_to-requires
spot_to-requires c = let h = c.args.table.now.held in (h.chars, h.sampled, c.position_at.ensures.1)

pub returns : goal.returns
returns c = let q = c.position_at.ensures.0 in
    let x = listed-segment-at _ _ _ _ q refl in
    let y = listed-element-at _ _ _ _ q refl in c.spot_to.ensures ∙ cc
