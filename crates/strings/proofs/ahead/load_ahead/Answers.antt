use native.Mathlib.Omega.{arith}
use Rattle.strings.proofs.Prefetched.{stands_spot}
use Rattle.strings.proofs.ahead.load_ahead.Goals as goal

pub touch_whole-requires : goal.touch_whole-requires
touch_whole-requires c = let w = stands_spot _ _ _ (c.requires.3.each _ c.loop-i-test.true) c.args.table.now.held.laid.characters c.in-Some.is in
    (omega (arith, w.past), w.some, w.fits)
