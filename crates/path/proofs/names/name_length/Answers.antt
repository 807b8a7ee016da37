use native.Mathlib.Omega.{arith}
use Rattle.path.proofs.Formed.{some_end}
use Rattle.path.proofs.names.name_length.Goals as goal

pub unreachable-requires : goal.unreachable-requires
unreachable-requires c = let p = c.requires in some_end _ _ p.0 p.1 p.2 (λ i l. c.loop-k.invariant i (omega arith))
