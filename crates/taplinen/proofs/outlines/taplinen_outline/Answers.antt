use mathlib.Core.Path.{refl}
use Rattle.verdict.proofs.Gives.{given, refuses}
use Rattle.outline.specs.Outlined.{outline_after}
use Rattle.taplinen.specs.Questions.{outline_verdict, outline_answer, outline_buffer}
use Rattle.accept.proofs.Accepted.{enough_room}
use Rattle.taplinen.proofs.Filled.{first-filled, own_filled}
use Rattle.layout.specs.declared.Edition.TheVariants.{Bits64}
use Rattle.taplinen.proofs.outlines.taplinen_outline.Goals as goal

pub invariant_of-from : goal.invariant_of-from
invariant_of-from c = let g = given c.accept.ensures.answer c.in-Ok.is in record { fits = g.1; accepted = enough_room Bits64 _ _ g.0 }

pub returns-in-Ok : goal.returns-in-Ok
unfolding outline_answer outline_buffer outline_verdict
returns-in-Ok c = let q = c.accept.ensures in
    let e = c.from-source.ensures in
    let both = own_filled Bits64 _ _ q.workspace _ _ (outline_after Bits64 _ _) {r = c.write_outline.result} (given q.answer c.in-Ok.is).0 (rw e at c.write_outline.ensures.answer) c.into.ensures (rw e at c.write_outline.ensures.buffer) in
    record { answer = both.0; workspace = both.1.0; outline = both.1.1 }

pub returns-in-Err : goal.returns-in-Err
unfolding outline_answer outline_buffer outline_verdict outline_after
returns-in-Err c = let q = c.accept.ensures in
    let both = first-filled Bits64 _ _ q.workspace _ _ (outline_after Bits64 _ _) (refuses q.answer c.in-Err.is) c.into-in-Err.ensures refl in
    record { answer = both.0; workspace = both.1.0; outline = both.1.1 }
