use mathlib.Core.Path.{refl, sym, ◌∙◌}
use Rattle.text.proofs.AsBytes.{char_bytes, folded_start, folded_next, folded_over}
use Rattle.text.proofs.parts.fold_each.Goals as goal

pub loop-i-init : goal.loop-i-init
loop-i-init c = (c.requires.1, folded_start _ _ _ _)

pub loop-i-preserved : goal.loop-i-preserved
loop-i-preserved c = let e = char_bytes _ _ _ _ c.byte_on.ensures.0 c.byte_on-g.ensures.0 in (
  c.byte_on-g.ensures.1,
  c.loop-i.invariant.1 ∙ folded_next _ _ _ _ _ _ _ _ _ c.loop-i-test.true refl c.u16_at.ensures.0 c.fold-c.ensures.0 e,
)

pub returns : goal.returns
returns c = let v = c.loop-i.invariant in sym (v.1 ∙ folded_over _ _ _ _ _ c.loop-i-test.false)
