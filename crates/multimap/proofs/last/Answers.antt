use native.Mathlib.Nat.{le_refl}
use Rattle.multimap.proofs.Laws.{slot-head}
use Rattle.multimap.proofs.last.Goals as goal

pub seek-requires : goal.seek-requires
seek-requires c = let p = c.requires in (p, le_refl _, slot-head p _ _ c.from.ensures)
