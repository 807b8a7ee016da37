use borrow.Author.Rules.{rules}
use native.Mathlib.Omega.{arith}
use Rattle.strings.proofs.Prefetched.{stood_more}
use Rattle.strings.proofs.ahead.find_spots.Goals as goal

pub loop-i-preserved : goal.loop-i-preserved
loop-i-preserved c = record { long = search rules; stood = stood_more c.loop-i.invariant.stood (omega arith) c.text_spot.ensures }
