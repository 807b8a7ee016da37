use mathlib.Core.Path.{refl}
use Rattle.lookup.proofs.Picked.{place_in, place_is}
use native.Mathlib.Omega.{arith}
use Rattle.lookup.proofs.first.text_at.Goals as goal

pub locate-p-requires : goal.locate-p-requires
locate-p-requires c = let p = c.requires in (p.0, p.1, omega (arith, c.segment.ensures.0, p.3.seg_in, p.0.count_is))

pub overflow_add-result : goal.overflow_add-result
overflow_add-result c = let p = c.requires in record { fits = omega (arith, p.0.short, place_in _ _ _ _ _ p.0.laid p.3 c.segment.ensures.0 c.locate-p.ensures _ refl) }

pub overflow_add-result-2 : goal.overflow_add-result-2
overflow_add-result-2 c = let p = c.requires in record { fits = omega (arith, p.0.short, place_in _ _ _ _ _ p.0.laid p.3 c.segment.ensures.0 c.locate-p.ensures _ c.element.ensures.0) }

pub returns : goal.returns
returns c = let p = c.requires in place_is _ _ _ _ _ p.0.laid p.3 c.segment.ensures.0 c.locate-p.ensures _ c.element.ensures.0
