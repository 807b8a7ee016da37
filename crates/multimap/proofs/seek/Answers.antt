use mathlib.Core.Path.{sym, ◌∙◌}
use Rattle.multimap.proofs.Laws.{sought_start, sought_none, sought_here, linked_less, sought_next}
use native.Mathlib.Omega.{arith}
use Rattle.multimap.proofs.seek.Goals as goal

pub loop-i-init : goal.loop-i-init
loop-i-init c = sought_start _ _ _ _ c.requires.2

pub offset_bounds-map-i : goal.offset_bounds-map-i
offset_bounds-map-i c = record { fits = omega (arith, c.in-Some.ensures, c.loop-i.invariant.within, c.requires.1, c.requires.0.few) }

pub bounds-map-i : goal.bounds-map-i
bounds-map-i c = omega (arith, c.in-Some.ensures, c.loop-i.invariant.within, c.requires.1, c.requires.0.few)

pub returns-then-from-x : goal.returns-then-from-x
returns-then-from-x c = let e = c.in-Some.ensures.1 in
    rw e (sought_here _ _ _ _ c.loop-i.invariant c.in-Some.ensures.0 (rw (sym e) (sym c.from.ensures ∙ c.if-from-x.true)))

pub offset_bounds-map-i-in-Some : goal.offset_bounds-map-i-in-Some
offset_bounds-map-i-in-Some c = record { fits = omega (arith, c.in-Some.ensures, c.loop-i.invariant.within, c.requires.1, c.requires.0.few) }

pub bounds-map-i-in-Some : goal.bounds-map-i-in-Some
bounds-map-i-in-Some c = omega (arith, c.in-Some.ensures, c.loop-i.invariant.within, c.requires.1, c.requires.0.few)

pub loop-i-smaller : goal.loop-i-smaller
loop-i-smaller c = let p = c.requires in
    let e = c.in-Some.ensures in
    linked_less _ _ _ p.0 p.1 _ c.loop-i.invariant e.0 _ (rw (sym e.1) c.from-at.ensures)

pub loop-i-preserved : goal.loop-i-preserved
loop-i-preserved c = let p = c.requires in
    let e = c.in-Some.ensures in
    sought_next _ _ _ p.0 p.1 _ c.loop-i.invariant e.0 _ (rw (sym e.1) c.from-at.ensures)
    (λ h. c.if-from-x.false (c.from.ensures ∙ rw e.1 h))

pub returns : goal.returns
returns c = sought_none _ _ _ _ c.loop-i.invariant (omega (arith, c.in_default.ensures))
