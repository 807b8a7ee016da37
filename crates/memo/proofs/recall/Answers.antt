use Prim.Native.Nat.{◌+◌}
use native.Mathlib.Omega.{arith}
use mathlib.Core.Path.{◌≡◌}
use lib.ListN.{get_or}
use Rattle.memo.proofs.Laws.{recalled}
use Rattle.memo.proofs.recall.Goals as goal

pub returns : goal.returns
returns c =
    let p : get_or c.args.memo.now c.slot-s.result 0 ≡ c.args.x = omega arith in
    let q : get_or c.args.memo.now (1024 + c.slot-s.result) 0 ≡ c.args.n = omega arith in
    recalled _ _ _ _ _ c.slot-s.ensures p q c.wide-3.ensures.0
