use Rattle.prefetch.proofs.Rights.{spot_of, fits-of}
use Rattle.prefetch.proofs.Filling.{spots_more, fit_more}
use Rattle.nodes.proofs.Addresses.{spot-fits}
use lib.ListN.{length, length-set}
use Prim.Native.Nat.{◌+◌, ◌*◌, ◌≤◌}
use native.Mathlib.Omega.{arith}
use Rattle.prefetch.proofs.steps.find_spots.Goals as goal
use Rattle.prefetch.proofs.steps.find_spots.Goals.{In-Some}

fits : (c : In-Some) → c.in-Some.spot.at + 2 * c.in-Some.spot.left ≤ length c.args.b.now
fits c = spot-fits _ _ _ _ c.requires.0.laid c.spot_at-a.ensures c.in-Some.is

pub overflow_cast-texts : goal.overflow_cast-texts
overflow_cast-texts c = record { fits = omega (arith, fits (goal.at.overflow_cast-texts c).In-Some, c.requires.2) }

pub overflow_cast-texts-in-loop-j : goal.overflow_cast-texts-in-loop-j
overflow_cast-texts-in-loop-j c = record { fits = omega (arith, fits (goal.at.overflow_cast-texts-in-loop-j c).In-Some, c.requires.2) }

pub loop-j-preserved : goal.loop-j-preserved
loop-j-preserved c = let i = c.loop-j.invariant in (
  simp length-set i.0,
  spots_more _ i.0 (omega (arith, c.loop-j-test.true, c.requires.5)) i.1 c.wide-q.ensures.0 (spot_of c.text_segment.ensures.0 c.text_element.ensures.0 c.spot_at-a.ensures c.in-Some.is),
  fit_more _ i.0 (omega (arith, c.loop-j-test.true, c.requires.5)) i.2 (fits-of _ _ c.requires.0.laid c.spot_at-a.ensures c.in-Some.is),
)
