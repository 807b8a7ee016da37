-- Answers by the ways out of a question. Assumes nothing.
use Prim.Native.Nat.{ℕ, ◌%◌}
use mathlib.Core.Path.{◌≡◌, refl, ap, sym, ◌∙◌}
use mathlib.Core.List.{List}
use lib.ListN.{length}
use Rattle.verdict.specs.Checks.{first_fault}
use Rattle.verdict.specs.Verdict.{Verdict, Accepted, Refused}
use Rattle.verdict.proofs.Laws.{pass, stop, fault_none}
use Rattle.layout.specs.Header.{header_of}
use Rattle.layout.specs.declared.Header.{Header}
use Rattle.layout.specs.declared.Edition.{Edition}
use Rattle.lookup.specs.Asked.{text_checks}
use Rattle.accept.specs.Verdict.{verdict_of}
use Rattle.taplinen.specs.Answers.{answered, reported}
use Rattle.taplinen.specs.Questions.{header_answer}
use Rattle.taplinen.specs.declared.answer.Answer.{Answer}
use Rattle.taplinen.specs.declared.header.HeaderReport.{HeaderReport}

-- a refusal leaves out the kind and the value
answer-same : (w : Verdict) {k m j n : ℕ} → (w ≡ Accepted → (k ≡ j) × (m ≡ n)) → answered w k m ≡ answered w j n
unfolding answered
answer-same Accepted f = let g = f refl in cc
answer-same (Refused a p) f = refl

pub answer_by : {w u : Verdict} {k m j n : ℕ} {r : Answer} → u ≡ w → (w ≡ Accepted → (k ≡ j) × (m ≡ n)) → r ≡ answered w k m
    → r ≡ answered u j n
answer_by {w} {j = j} {n = n} e f h = h ∙ answer-same w f ∙ sym (ap (λ (x : Verdict). answered x j n) e)

module _ (ed : Edition) (b : List ℕ) (room : ℕ) where
  pub header_refused : {n p : ℕ} {r : HeaderReport} → verdict_of ed b room ≡ Refused n p → r ≡ reported (Refused n p) (header_of b) → r ≡ header_answer ed b room
  unfolding header_answer
  header_refused e h = h ∙ sym (ap (λ (x : Verdict). reported x (header_of b)) e)

  pub header-told : {h : Header} {r : HeaderReport} → verdict_of ed b room ≡ Accepted → h ≡ header_of b → r ≡ reported Accepted h → r ≡ header_answer ed b room
  unfolding header_answer
  header-told e g h = h ∙ ap (reported Accepted) g ∙ sym (ap (λ (x : Verdict). reported x (header_of b)) e)

-- 24 of a text
module _ (x : List ℕ) where
  pub text_odd : (length x % 2 ≡ 0 → ⊥) → Refused 24 (length x) ≡ first_fault (text_checks x)
  unfolding text_checks
  text_odd o = sym (stop _ _ _ _ _ o)

  pub text-even : length x % 2 ≡ 0 → Accepted ≡ first_fault (text_checks x)
  unfolding text_checks
  text-even o = sym (pass _ _ _ _ _ o ∙ fault_none)
