use mathlib.Core.Path.{refl}
use Rattle.batch.proofs.Slots.{texts_none, texts_more, picked_none, picked_more}
use native.Mathlib.Omega.{arith}
use Rattle.batch.proofs.group.pick_each.Goals as goal

pub loop-j-init : goal.loop-j-init
loop-j-init c = record { texts = texts_none _ _ c.requires.2; picked = picked_none _ c.requires.2 }

pub loop-j-preserved : goal.loop-j-preserved
loop-j-preserved c = let w = c.loop-j.invariant in record {
  texts = texts_more w.texts _ (omega (arith, c.requires.0, c.loop-j-test.true)) c.pick.ensures.places;
  picked = picked_more w.picked _ (omega (arith, c.requires.0, c.loop-j-test.true)) refl c.pick.ensures.bears;
}
