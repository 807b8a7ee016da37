use mathlib.Core.Path.{refl, sym, ◌∙◌}
use Rattle.text.proofs.AsBytes.{bytes_next, bytes_over}
use Rattle.text.proofs.parts.hash_each.Goals as goal

pub loop-b-init : goal.loop-b-init
loop-b-init c = (c.requires, refl)

pub loop-b-preserved : goal.loop-b-preserved
loop-b-preserved c = (c.byte_on-g.ensures.1, c.loop-b.invariant.1 ∙ bytes_next _ _ _ _ _ c.loop-b-test.true c.from.ensures c.byte_on-g.ensures.0)

pub returns : goal.returns
returns c = let v = c.loop-b.invariant in (sym (v.1 ∙ bytes_over _ _ _ c.loop-b-test.false), v.0)
