use mathlib.Core.Path.{refl}
use Rattle.layout.specs.declared.Edition.TheVariants.{Bits64}
use Rattle.strings.proofs.Accepted.{strings_parts}
use Rattle.prefetch.proofs.Rights.{all_found, all_right}
use Rattle.prefetch.proofs.Filling.{spots_still}
use Rattle.prefetch.proofs.steps.batch_right.Goals as goal

pub returns-then-packed-clause-answer : goal.returns-then-packed-clause-answer
returns-then-packed-clause-answer c = let v = c.args.values.now in
    let w = spots_still c.load_before.ensures.1 (c.find_spots.ensures.answer c.if-not-find_spots.false).0 in
    let h = c.all_pass.ensures.answer c.if-not-all_pass.false in
    λ z. all_right Bits64 _ _ _ _ _ refl v.of_file v.checked.table.held.chars.laid w h.0 (all_found _ _ _ _ _ refl (c.requires.3 c.if-packed.true) w (h.1 c.if-packed.true))

pub lower_bounds-requires : goal.lower_bounds-requires
lower_bounds-requires c = ((strings_parts _ c.args.values.now.checked.checked).0, c.requires.2, c.hash_texts.ensures.hashes, refl)

pub find_entries-requires : goal.find_entries-requires
find_entries-requires c = let p = c.requires in
    ((strings_parts _ c.args.values.now.checked.checked).0, p.1, p.2, p.0, c.hash_texts.ensures.hashes, c.lower_bounds.ensures)

pub returns-clause-answer : goal.returns-clause-answer
returns-clause-answer c = let v = c.args.values.now in
    let w = spots_still c.load_before.ensures.1 (c.find_spots.ensures.answer c.if-not-find_spots.false).0 in
    let h = c.all_pass.ensures.answer c.if-not-all_pass.false in
    λ z. all_right Bits64 _ _ _ _ _ refl v.of_file v.checked.table.held.chars.laid w h.0 (c.find_entries.ensures z)
