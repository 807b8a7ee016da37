use mathlib.Core.Path.{ap}
use Rattle.print.specs.Text.{escaped}
use Rattle.print.proofs.Puts.{put_same}
use Rattle.outline.proofs.Addressed.{small-element, is_found, found_at}
use Rattle.outline.proofs.texts.put_text.Goals as goal

pub spot_at-requires : goal.spot_at-requires
spot_at-requires c = let p = c.requires in (p.mapped, p.sampled, small-element p)

pub unwrap-spot-requires : goal.unwrap-spot-requires
unwrap-spot-requires c = is_found c.requires c.spot_at.ensures

pub put_chars-requires : goal.put_chars-requires
put_chars-requires c = (found_at c.requires c.spot_at.ensures c.unwrap-spot.ensures).0

pub returns : goal.returns
returns c = put_same (ap escaped (found_at c.requires c.spot_at.ensures c.unwrap-spot.ensures).1) c.put_chars.ensures
