use native.Mathlib.Omega.{arith}
use Rattle.multimap.proofs.Laws.{blank}
use Rattle.strings.proofs.apart.sift_some.Goals as goal

pub collect-collected-requires : goal.collect-collected-requires
collect-collected-requires c = let p = c.requires in (p.0, omega arith, omega arith, blank)
