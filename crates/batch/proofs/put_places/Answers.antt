use Prim.Native.Nat.{◌+◌, ◌*◌, ◌≤◌}
use mathlib.Core.Path.{refl, sym, ap, ◌∙◌}
use lib.ListN.{length, get_or}
use Rattle.hash.specs.Hash.{hash_text}
use Rattle.strings.proofs.Accepted.{strings_parts}
use Rattle.lookup.proofs.Parts.{slice_half, slice_text}
use Rattle.batch.proofs.Placed.{TextAt, writing_start, place-room, writing_all}
use Rattle.batch.proofs.Slots.{near_read}
use Rattle.batch.proofs.Groupwise.{going_start, going_text, going_more, going_on}
use native.Mathlib.Omega.{arith}
use borrow.Author.Rules.{rules}
use Rattle.batch.proofs.put_places.Goals as goal
use Rattle.batch.proofs.put_places.Goals.{In-loop-j}

-- the text of this turn
here : (c : In-loop-j) → TextAt c.args.texts.now c.loop-j.at (get_or c.measure_group-n.new.lengths c.loop-j.j 0) (get_or c.measure_group-n.new.hashes c.loop-j.j 0)
here c = going_text c.loop-j.invariant c.requires.0 c.loop-at.invariant.writing.even c.loop-j-test.true

pub loop-at-init : goal.loop-at-init
loop-at-init c = record { writing = writing_start _ _ _ c.requires.1; lengths = search rules; picked = search rules }

pub lower_bounds-skipped-requires : goal.lower_bounds-skipped-requires
lower_bounds-skipped-requires c = let g = c.measure_group-n.ensures.1 in
    ((strings_parts _ c.args.checked.now.checked).0, g.few, g.hashes_long, c.loop-at.invariant.lengths.third)

pub loop-j-init : goal.loop-j-init
loop-j-init c = going_start _ _ _ c.measure_group-n.ensures.1

pub loop-at-smaller : goal.loop-at-smaller
loop-at-smaller c = let l = c.loop-j-test.false in
    let some = c.measure_group-n.ensures.0 in
    omega (arith, c.loop-at-test.true, l, some, going_on c.loop-j.invariant (omega (arith, l, some)))

pub overflow_mul-k : goal.overflow_mul-k
overflow_mul-k c = omega (arith, (here (goal.at.overflow_mul-k c).In-loop-j).within)

pub slice_bounds-find_picked-end : goal.slice_bounds-find_picked-end
slice_bounds-find_picked-end c = omega (arith, (here (goal.at.slice_bounds-find_picked-end c).In-loop-j).within)

pub find_picked-l-requires : goal.find_picked-l-requires
find_picked-l-requires c = let e = here (goal.at.find_picked-l-requires c).In-loop-j in
    let l : c.loop-j.at + 2 * get_or c.measure_group-n.new.lengths c.loop-j.j 0 ≤ length c.args.texts.now = omega (arith, e.within) in
    record {
      hashed = (c.wide.ensures.0 ∙ e.hashed ∙ ap hash_text (sym (slice_text _ _ _ l)), near_read c.prefetch_texts.ensures.near _ c.loop-j-test.true c.wide.ensures.0 refl);
      picked_entry = rw (slice_half c.args.texts.now c.loop-j.at _ l) (c.prefetch_texts.ensures.picked.each _ c.loop-j-test.true);
    }

pub put_place-requires : goal.put_place-requires
put_place-requires c = place-room _ _ (c.loop-j.invariant.kept _ c.loop-at.invariant.writing) (here (goal.at.put_place-requires c).In-loop-j)

pub overflow_mul-at : goal.overflow_mul-at
overflow_mul-at c = record { fits = omega (arith, (here (goal.at.overflow_mul-at c).In-loop-j).within) }

pub overflow_add-at : goal.overflow_add-at
overflow_add-at c = record { fits = omega (arith, (here (goal.at.overflow_add-at c).In-loop-j).within) }

pub overflow_add-at-in-loop-j : goal.overflow_add-at-in-loop-j
overflow_add-at-in-loop-j c = record { fits = omega (arith, (here (goal.at.overflow_add-at-in-loop-j c).In-loop-j).within) }

pub overflow_add-at-in-loop-j-2 : goal.overflow_add-at-in-loop-j-2
overflow_add-at-in-loop-j-2 c = record { fits = omega (arith, (here (goal.at.overflow_add-at-in-loop-j-2 c).In-loop-j).within) }

pub loop-j-preserved : goal.loop-j-preserved
loop-j-preserved c = let e = here (goal.at.loop-j-preserved c).In-loop-j in
    let t = rw (slice_text c.args.texts.now c.loop-j.at (get_or c.measure_group-n.new.lengths c.loop-j.j 0) (omega (arith, e.within))) at c.find_picked-l.ensures in
    going_more c.loop-j.invariant c.loop-j-test.true e t c.put_place.ensures

pub returns : goal.returns
returns c = writing_all _ _ c.loop-at.invariant.writing c.loop-at-test.false
