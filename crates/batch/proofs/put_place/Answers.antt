use mathlib.Core.Path.{◌∙◌}
use Rattle.batch.proofs.Placed.{put_told}
use Rattle.batch.proofs.put_place.Goals as goal

pub returns : goal.returns
returns c = put_told _ _ _ c.requires (c.wide.ensures.0 ∙ c.code.ensures) c.value.ensures c.put_u32.ensures c.put_u32-2.ensures
