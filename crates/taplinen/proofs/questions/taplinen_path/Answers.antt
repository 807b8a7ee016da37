use mathlib.Core.Path.{refl, ap, sym, ◌∙◌}
use Rattle.verdict.proofs.Gives.{given, refuses}
use Rattle.accept.proofs.Accepted.{accepted_iff, enough_room}
use Rattle.layout.specs.Layout.{names}
use Rattle.path.specs.Listing.{listing_after}
use Rattle.taplinen.specs.Questions.{path_verdict, path_answer, path_listing}
use Rattle.taplinen.proofs.Filled.{first-filled, own_filled}
use Rattle.layout.specs.declared.Edition.TheVariants.{Bits64}
use Rattle.taplinen.proofs.questions.taplinen_path.Goals as goal

pub invariant_of-accepted : goal.invariant_of-accepted
invariant_of-accepted c = let g = given c.accept.ensures.answer c.in-Ok.is in record { fits = g.1; accepted = enough_room Bits64 _ _ g.0 }

pub list_path-requires : goal.list_path-requires
list_path-requires c =
    let n = c.names.ensures in
    record {
      file = (n.0 ∙ ap (names Bits64) (sym n.1), c.nodes.ensures.0 ∙ sym n.1);
      rules = rw n.1 ((accepted_iff Bits64 _ _).0 (given c.accept.ensures.answer c.in-Ok.is).0).0;
    }

pub returns-in-Ok : goal.returns-in-Ok
unfolding path_answer path_listing path_verdict
returns-in-Ok c = let q = c.accept.ensures in
    let e = c.names.ensures.1 in
    let both = own_filled Bits64 _ _ q.workspace _ _ (listing_after Bits64 _ _ _) {r = c.list_path.result} (given q.answer c.in-Ok.is).0 (rw e at c.list_path.ensures.answer) c.into.ensures (rw e at c.list_path.ensures.listing) in
    record { answer = both.0; workspace = both.1.0; listing = both.1.1 }

pub returns-in-Err : goal.returns-in-Err
unfolding path_answer path_listing path_verdict listing_after
returns-in-Err c = let q = c.accept.ensures in
    let both = first-filled Bits64 _ _ q.workspace _ _ (listing_after Bits64 _ _ _) (refuses q.answer c.in-Err.is) c.into-in-Err.ensures refl in
    record { answer = both.0; workspace = both.1.0; listing = both.1.1 }
