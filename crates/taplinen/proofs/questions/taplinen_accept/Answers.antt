use mathlib.Core.Path.{refl}
use Rattle.verdict.proofs.Laws.{never}
use Rattle.verdict.proofs.Gives.{given, refuses}
use Rattle.accept.proofs.Held.{used-told}
use Rattle.taplinen.specs.Questions.{accept_answer, workspace_left}
use Rattle.taplinen.proofs.Laws.{answer_by}
use Rattle.layout.specs.declared.Edition.TheVariants.{Bits64}
use Rattle.taplinen.proofs.questions.taplinen_accept.Goals as goal

pub returns-in-Ok : goal.returns-in-Ok
unfolding accept_answer workspace_left
returns-in-Ok c = let g = given c.accept.ensures.answer c.in-Ok.is in
    record { answer = answer_by g.0 (λ z. (refl, used-told Bits64 _ _ g.1)) c.new.ensures; workspace = c.accept.ensures.workspace }

pub returns-in-Err : goal.returns-in-Err
unfolding accept_answer workspace_left
returns-in-Err c = record { answer = answer_by (refuses c.accept.ensures.answer c.in-Err.is) (λ z. absurd (never refl z)) c.into.ensures; workspace = c.accept.ensures.workspace }
