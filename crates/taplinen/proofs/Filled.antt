-- A question by its ways out: acceptance's refusals, then its own checks cs, then its kind k and its number n. Assumes nothing.
use Prim.Native.Nat.{ℕ}
use mathlib.Core.Path.{◌≡◌, refl, ap, sym, ◌∙◌}
use mathlib.Core.List.{List, ◌++◌}
use lib.ListN.{length}
use Rattle.std.specs.Prelude.{Result, Ok, Err}
use Rattle.std.specs.Result.{result_unwrap_or}
use Rattle.verdict.specs.Checks.{Check, first_fault}
use Rattle.verdict.specs.Verdict.{Verdict, Accepted, Refused, answer_of}
use Rattle.verdict.specs.declared.Refusal.{Refusal}
use Rattle.verdict.specs.inner.Gives.{Gives}
use Rattle.verdict.proofs.Laws.{never, fault_append, fault_keep}
use Rattle.layout.specs.declared.Edition.{Edition}
use Rattle.tree.specs.Outcome.{workspace_after}
use Rattle.accept.specs.Verdict.{accept_checks, verdict_of}
use Rattle.taplinen.specs.Answers.{answered}
use Rattle.taplinen.specs.Questions.{workspace_left}
use Rattle.taplinen.specs.declared.answer.Answer.{Answer}
use Rattle.taplinen.proofs.Laws.{answer_by}

module _ (ed : Edition) (b : List ℕ) (room : ℕ) (cs : List Check) where
  first_verdict : {a p : ℕ} → verdict_of ed b room ≡ Refused a p → first_fault (accept_checks ed b room ++ cs) ≡ Refused a p
  unfolding verdict_of
  first_verdict e = fault_keep (accept_checks ed b room) cs e

  own_verdict : {w : Verdict} → verdict_of ed b room ≡ Accepted → w ≡ first_fault cs → first_fault (accept_checks ed b room ++ cs) ≡ w
  unfolding verdict_of
  own_verdict e f = fault_append (accept_checks ed b room) cs e ∙ sym f

  module _ (k n : ℕ) {r : Answer} where
    -- acceptance refused
    pub first-answer : {a p : ℕ} → verdict_of ed b room ≡ Refused a p → r ≡ answered (Refused a p) 0 0 → r ≡ answered (first_fault (accept_checks ed b room ++ cs)) k n
    first-answer e h = answer_by (first_verdict e) (λ z. absurd (never refl z)) h

    -- the file is accepted, and w is the question's own verdict
    pub own_answer : {w : Verdict} {l m : ℕ} → verdict_of ed b room ≡ Accepted → w ≡ first_fault cs → (w ≡ Accepted → (l ≡ k) × (m ≡ n)) → r ≡ answered w l m
        → r ≡ answered (first_fault (accept_checks ed b room ++ cs)) k n
    own_answer e f g h = answer_by (own_verdict e f) g h

-- the number that comes with an answer
number_given : {v : Verdict} {n : ℕ} (r : Result ℕ Refusal) → Gives v (λ m. m ≡ n) r → answer_of r ≡ Accepted → result_unwrap_or r 0 ≡ n
number_given (Ok m) g e = g.value m refl
number_given (Err x) g e = absurd (never refl e)

-- what code that holds the view and asks is told, and what it leaves in a buffer
pub own_told : (ed : Edition) (b : List ℕ) (room : ℕ) (cs : List Check) (n : ℕ) (after : Verdict → List ℕ) {r : Result ℕ Refusal}
    → verdict_of ed b room ≡ Accepted → Gives (first_fault cs) (λ m. m ≡ n) r
    → (answered (first_fault (accept_checks ed b room ++ cs)) 0 n ≡ answered (answer_of r) 0 (result_unwrap_or r 0))
    × (after (first_fault (accept_checks ed b room ++ cs)) ≡ after (answer_of r))
own_told ed b room cs n after {r} e g = (
  sym (own_answer ed b room cs 0 n e g.answer (λ z. (refl, number_given r g z)) refl),
  ap after (own_verdict ed b room cs e g.answer),
)

-- the answer, the workspace, and the buffer, which is left by the verdict as `after` says
abbrev Filled : Edition → List ℕ → List ℕ → List Check → ℕ → (Verdict → List ℕ) → Answer → List ℕ → List ℕ → Type 0
Filled ed b ws cs n after a ws' l =
    let v = first_fault (accept_checks ed b (length ws) ++ cs) in (a ≡ answered v 0 n) × ((ws' ≡ workspace_left ed b ws) × (l ≡ after v))

module _ (ed : Edition) (b ws : List ℕ) {ws' : List ℕ} (j : ws' ≡ workspace_after ed b ws (verdict_of ed b (length ws))) (cs : List Check)
    (n : ℕ) (after : Verdict → List ℕ) {a : Answer} {l : List ℕ} where
  pub first-filled : {m p : ℕ} → verdict_of ed b (length ws) ≡ Refused m p → a ≡ answered (Refused m p) 0 0 → l ≡ after (Refused m p)
      → Filled ed b ws cs n after a ws' l
  unfolding workspace_left
  first-filled e h g = (first-answer ed b (length ws) cs 0 n e h, (j, g ∙ sym (ap after (first_verdict ed b (length ws) cs e))))

  pub own_filled : {r : Result ℕ Refusal} → verdict_of ed b (length ws) ≡ Accepted → Gives (first_fault cs) (λ m. m ≡ n) r
      → a ≡ answered (answer_of r) 0 (result_unwrap_or r 0) → l ≡ after (answer_of r) → Filled ed b ws cs n after a ws' l
  unfolding workspace_left
  own_filled {r} e f h g =
      let t = own_told ed b (length ws) cs n after {r = r} e f in
      (h ∙ sym t.0, (j, g ∙ sym t.1))
