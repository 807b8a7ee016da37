use native.Mathlib.Omega.{arith}
use Rattle.multimap.proofs.Laws.{slot-link}
use Rattle.multimap.proofs.before.Goals as goal

pub seek-requires : goal.seek-requires
seek-requires c = let p = c.requires in (p.0, omega (arith, p.1), slot-link p.0 _ _ _ p.1 p.2 c.from.ensures)
