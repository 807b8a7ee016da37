use Prim.Native.Nat.{◌≤◌}
use native.Mathlib.Omega.{arith}
use lib.ListN.{length}
use Rattle.dcdump.proofs.Lengths.{output_long}
use Rattle.dcdump.proofs.report.Goals as goal
use Rattle.dcdump.proofs.report.Goals.{After-dump-n}

-- the output lies in the buffer
fits : (c : After-dump-n) → c.dump-n.result ≤ length c.dump-n.new.out
fits c =
    let k = c.dump-n in
    omega (arith, output_long c.args.input.now, k.ensures.long, k.auto.out, c.zeros-out.ensures)

pub slice_bounds-out-end : goal.slice_bounds-out-end
slice_bounds-out-end c = fits (goal.at.slice_bounds-out-end c).After-dump-n
