use mathlib.Core.Path.{refl}
use Rattle.multimap.proofs.Laws.{put_behind}
use Rattle.multimap.proofs.insert.Goals as goal

pub returns : goal.returns
returns c = put_behind _ _ _ _ c.requires.0 c.requires.1 refl
