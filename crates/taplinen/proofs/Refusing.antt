-- Verdicts behind answers: what a refusal of a question says of it, and what it leaves in a buffer. Assumes nothing.
use Prim.Native.Nat.{ℕ, ◌≤◌, ◌<◌}
use native.Mathlib.Omega.{arith}
use mathlib.Core.Path.{◌≡◌, refl, ap, sym, ◌∙◌}
use mathlib.Core.Logic.{◌⊎◌, ◌↔◌, inl, inr, ⊎_elim}
use mathlib.Core.List.{List, [], ◌∷◌, ◌++◌}
use lib.ListN.{length, drop, length-append, length-drop}
use lib.Seq.{drop_at}
use Rattle.laws.proofs.Order.{le_or_lt}
use Rattle.verdict.specs.Checks.{Check, first_fault, at_most}
use Rattle.verdict.specs.Verdict.{Verdict}
use Rattle.verdict.specs.Verdict.{Accepted, Refused}
use Rattle.verdict.proofs.Laws.{Clean, never, pass, stop, fault_none, fault_append, fault_keep}
use Rattle.verdict.proofs.Broken.{AllOf, all-broken, append-refused}
use Rattle.layout.specs.declared.Edition.{Edition}
use Rattle.accept.specs.Verdict.{accept_checks, verdict_of}
use Rattle.accept.proofs.Rows.{refused-row, row_number}
use Rattle.taplinen.specs.Answers.{answered}
use Rattle.taplinen.specs.Demands.{Refuses, Answers, OneOf, OfFile}

-- ---- an answer and its verdict

-- a verdict is acceptance, or a refusal
pub verdict_cases : (v : Verdict) → (v ≡ Accepted) ⊎ ((n : ℕ) × (p : ℕ) × (v ≡ Refused n p))
verdict_cases Accepted = inl refl
verdict_cases (Refused n p) = inr (n, p, refl)

module _ (k m : ℕ) where
  pub accepted_0 : {v : Verdict} → v ≡ Accepted → (answered v k m).refusal ≡ 0
  unfolding answered
  accepted_0 e = rw e

  pub refused-number : {v : Verdict} {n p : ℕ} → v ≡ Refused n p → ((answered v k m).refusal ≡ n) × ((answered v k m).value ≡ p)
  unfolding answered
  refused-number e = (rw e, rw e)

  -- refused with n at p
  pub refuses_verdict : (v : Verdict) {n p : ℕ} → Refuses (answered v k m) n p → v ≡ Refused n p
  unfolding answered
  refuses_verdict Accepted r = absurd (r.not_0 (sym r.number))
  refuses_verdict (Refused a q) r = let x = r.number in let y = r.place in cc

  pub verdict_refuses : {v : Verdict} {n p : ℕ} → (n ≡ 0 → ⊥) → v ≡ Refused n p → Refuses (answered v k m) n p
  unfolding answered
  verdict_refuses z e = record { not_0 = z; number = rw e; kind = rw e; place = rw e }

  pub verdict_answers : {v : Verdict} → v ≡ Accepted → Answers (answered v 0 m) m
  unfolding answered
  verdict_answers e = record { answered = rw e; kind = rw e; value = rw e }

-- ---- acceptance's numbers

module _ (ed : Edition) (b : List ℕ) (room : ℕ) where
  pub file_number : {n p : ℕ} → verdict_of ed b room ≡ Refused n p → OfFile n
  file_number e = row_number (refused-row ed b room e)

  -- so 0 means accepted
  pub zero-accepted : (k m : ℕ) → (answered (verdict_of ed b room) k m).refusal ≡ 0 → verdict_of ed b room ≡ Accepted
  zero-accepted k m z =
      ⊎_elim (λ e. e)
      (λ w. let f = file_number w.2 in let q = (refused-number k m w.2).0 in absurd (omega (arith, f.0)))
      (verdict_cases (verdict_of ed b room))

-- ---- a question: acceptance's checks, then its own

module _ (ed : Edition) (b : List ℕ) (room : ℕ) (cs : List Check) (Q : ℕ → Type 0) (a : AllOf (λ n p P. (P → ⊥) → Q n) cs) where
  question_refused : {n p : ℕ} → first_fault (accept_checks ed b room ++ cs) ≡ Refused n p → OfFile n ⊎ Q n
  unfolding verdict_of
  question_refused e =
      ⊎_elim (λ f. inl (file_number ed b room f)) (λ w. inr (all-broken (λ n p. Q n) cs a w.1)) (append-refused (accept_checks ed b room) cs e)

  pub question_number : (k m : ℕ) → OneOf (λ n. OfFile n ⊎ Q n) (answered (first_fault (accept_checks ed b room ++ cs)) k m).refusal
  question_number k m = go (verdict_cases (first_fault (accept_checks ed b room ++ cs)))
    where
      go : (first_fault (accept_checks ed b room ++ cs) ≡ Accepted) ⊎ ((n : ℕ) × (p : ℕ) × (first_fault (accept_checks ed b room ++ cs) ≡ Refused n p))
          → OneOf (λ n. OfFile n ⊎ Q n) (answered (first_fault (accept_checks ed b room ++ cs)) k m).refusal
      go (inl e) = inl (accepted_0 k m e)
      go (inr w) = inr (rw (refused-number k m w.2).0 (question_refused w.2))

-- ---- a buffer that a refusal leaves

module _ (d : List ℕ) (after : Verdict → List ℕ) (keeps : (n p : ℕ) → after (Refused n p) ≡ d) where
  pub refused-kept : (v : Verdict) (k m : ℕ) → ((answered v k m).refusal ≡ 0 → ⊥) → after v ≡ d
  unfolding answered
  refused-kept Accepted k m f = absurd (f refl)
  refused-kept (Refused n p) k m f = keeps n p

  pub same-long : (v : Verdict) → (v ≡ Accepted → length (after Accepted) ≡ length d) → length (after v) ≡ length d
  same-long Accepted f = f refl
  same-long (Refused n p) f = ap length (keeps n p)

-- a buffer that holds x from its start on
pub front_long : (x d : List ℕ) → length x ≤ length d → length (x ++ drop (length x) d) ≡ length d
front_long x d l = simp (length-append, length-drop) (omega arith)

-- and after it every byte is as it was
pub front_after : (x d : List ℕ) (n : ℕ) → length x ≡ n → drop n (x ++ drop (length x) d) ≡ drop n d
front_after x d n e = drop_at x (drop (length x) d) n e ∙ ap (λ (k : ℕ). drop k d) e

-- ---- a last check for room: m things, and room for x of them

module _ (xs ys : List Check) (first : Clean xs) (own : Clean ys) (c m x : ℕ) where
  pub room_fits : m ≤ x → first_fault (xs ++ (ys ++ (at_most c m m x ∷ []))) ≡ Accepted
  room_fits l = fault_append xs _ first ∙ fault_append ys _ own ∙ pass _ _ _ _ _ l ∙ fault_none

  pub room_over : x < m → first_fault (xs ++ (ys ++ (at_most c m m x ∷ []))) ≡ Refused c m
  room_over l = fault_append xs _ first ∙ fault_append ys _ own ∙ stop _ _ _ _ _ (λ h. omega arith)

-- it refuses exactly when they outnumber it
pub outnumber : (v : Verdict) (k j c m x : ℕ) → (c ≡ 0 → ⊥) → (m ≤ x → v ≡ Accepted) → (x < m → v ≡ Refused c m) → Refuses (answered v k j) c m ↔ (x < m)
outnumber v k j c m x z f g = (
  λ r. ⊎_elim (λ l. absurd (never (refuses_verdict k j v r) (f l))) (λ l. l) (le_or_lt m x),
  λ l. verdict_refuses k j z (g l),
)

-- ---- where acceptance refuses, a question does

pub refuses_first : (ed : Edition) (b : List ℕ) (room : ℕ) (cs : List Check) (k m : ℕ) {n p : ℕ} → (n ≡ 0 → ⊥) → verdict_of ed b room ≡ Refused n p
    → Refuses (answered (first_fault (accept_checks ed b room ++ cs)) k m) n p
unfolding verdict_of
refuses_first ed b room cs k m z e = verdict_refuses k m z (fault_keep (accept_checks ed b room) cs e)
