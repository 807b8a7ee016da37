use mathlib.Core.Path.{refl}
use Rattle.verdict.proofs.Gives.{given, refuses}
use Rattle.batch.specs.Places.{answers_after}
use Rattle.taplinen.specs.Batches.{batch_verdict, batch_answer, batch_places}
use Rattle.accept.proofs.Accepted.{enough_room}
use Rattle.taplinen.proofs.Filled.{first-filled, own_filled}
use Rattle.layout.specs.declared.Edition.TheVariants.{Bits64}
use Rattle.taplinen.proofs.batches.ask_each.Goals as goal

pub invariant_of-find_texts : goal.invariant_of-find_texts
invariant_of-find_texts c = let g = given c.accept.ensures.answer c.in-Ok.is in record { fits = g.1; accepted = enough_room Bits64 _ _ g.0 }

pub returns-in-Ok : goal.returns-in-Ok
unfolding batch_answer batch_places batch_verdict
returns-in-Ok c = let q = c.accept.ensures in
    let both = own_filled Bits64 _ _ q.workspace _ _ (answers_after _ _ _) {r = c.find_texts.result} (given q.answer c.in-Ok.is).0 c.find_texts.ensures.answer c.into.ensures c.find_texts.ensures.answers in
    record { answer = both.0; workspace = both.1.0; answers = both.1.1 }

pub returns-in-Err : goal.returns-in-Err
unfolding batch_answer batch_places batch_verdict answers_after
returns-in-Err c = let q = c.accept.ensures in
    let both = first-filled Bits64 _ _ q.workspace _ _ (answers_after _ _ _) (refuses q.answer c.in-Err.is) c.into-in-Err.ensures refl in
    record { answer = both.0; workspace = both.1.0; answers = both.1.1 }
