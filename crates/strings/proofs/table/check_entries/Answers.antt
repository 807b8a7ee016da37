use native.Mathlib.Omega.{arith}
use mathlib.Core.Path.{◌∙◌, refl, sym}
use borrow.Author.Count.{below_none, below_more}
use Rattle.std.specs.Prelude.{Result, Ok, Err, ◌≡◌, true, false}
use Rattle.std.specs.Result.{is_err}
use Rattle.verdict.specs.Checks.{first_fault}
use Rattle.verdict.specs.Verdict.{Verdict, Accepted, answer_of, refused}
use Rattle.verdict.specs.declared.Refusal.{Refusal}
use Rattle.verdict.specs.inner.Gives.{Gives}
use Rattle.verdict.specs.inner.Tells.{Sure}
use Rattle.verdict.proofs.Gives.{gives_ok, gives_err, gives_exit, given, refuses}
use Rattle.strings.specs.Order.{all_entry_checks}
use Rattle.strings.specs.inner.Begins.{AllBegun}
use Rattle.strings.specs.inner.Lent.{lent_table}
use Rattle.strings.proofs.Left.{left_start, left_open, left_more, left_stop, left_next, left_none}
use Rattle.strings.proofs.Prefetched.{near_next, ahead_none}
use Rattle.strings.proofs.Differing.{apart_none}
use Rattle.strings.proofs.Begun.{before_more, before-all}
use Rattle.strings.proofs.table.check_entries.Goals as goal
use Rattle.strings.proofs.table.check_entries.Goals.{After-branch-answer, else-buckets-test, then-buckets-test+then-loop-j-test+then-is_err}

-- what an entry's answer says, by whether it is a refusal
passes : {T : Type 0} {v : Verdict} (r : Result T Refusal) → answer_of r ≡ v → is_err r ≡ false → v ≡ Accepted
passes (Ok x) g e = sym g
passes (Err x) g e = cc

stops : {T : Type 0} {v : Verdict} (r : Result T Refusal) → answer_of r ≡ v → is_err r ≡ true → (x : Refusal) × (r ≡ Err x) × (v ≡ refused x)
stops (Ok x) g e = absurd (cc)
stops (Err x) g e = (x, refl, sym g)

pub buckets-init : goal.buckets-init
buckets-init c = record { none = refl; rest = left_start _; begun = λ z. below_none _ }

pub loop-j-init : goal.loop-j-init
loop-j-init c = let b = c.buckets.invariant in record {
  none = b.none;
  rest = b.rest ∙ left_open _ _ c.buckets-test.true;
  passed = below_none _;
  ahead = ahead_none;
  begun = λ z. (b.begun z, below_none _);
  apart = apart_none _ _;
}

pub loop-j-preserved : goal.loop-j-preserved
loop-j-preserved c = let l = c.loop-j.invariant in
    let e = passes _ c.check_entry-answer.ensures (cc) in record {
      none = c.check_entry-answer.ensures ∙ e;
      rest = l.rest ∙ left_more _ _ _ (omega (arith, c.entry_count-n.ensures)) e;
      passed = below_more _ _ l.passed e;
      ahead = near_next _ c.keep_ahead.ensures;
      begun = λ z. let w = c.still_begun-begun.ensures z in ((l.begun w.0).0, below_more _ _ (l.begun w.0).1 w.1);
      apart = c.span_at-span.ensures;
    }

pub buckets-preserved : goal.buckets-preserved
buckets-preserved c = let l = c.loop-j.invariant in record {
  none = l.none;
  rest = l.rest ∙ left_next _ _ _ (omega (arith, c.entry_count-n.ensures));
  begun = λ z. before_more _ _ _ (l.begun z).0 (omega (arith, c.entry_count-n.ensures)) (l.begun z).1;
}

-- the answer with which the loops are left
left : (c : After-branch-answer) → let w = c.buckets-test in let t = lent_table c.args.table.now in
    Gives {T = Unit} (first_fault (all_entry_checks t)) (λ x. Sure (AllBegun t) w.begun) w.answer
left c = elim c.buckets-test.branch [
  | else-buckets-test w ↦ let b = c.buckets.invariant in rw (w.answer-is, w.begun-is) (record {
    answer = b.none ∙ sym (b.rest ∙ left_none _ _ w.buckets-test.false);
    value = λ x e z. before-all _ _ (b.begun z) w.buckets-test.false;
  })
  | then-buckets-test+then-loop-j-test+then-is_err w ↦
      let e = stops _ w.check_entry-answer.ensures (cc) in
      rw (w.answer-is, w.begun-is, e.1)
      (gives_err (w.loop-j.invariant.rest ∙ left_stop _ _ _ (omega (arith, w.entry_count-n.ensures)) e.2))
]

pub returns-in_err-answer : goal.returns-in_err-answer
returns-in_err-answer c = gives_exit _ _ c.from_residual.ensures.1 (refuses (left (goal.at.returns-in_err-answer c).After-branch-answer) c.in_err-answer.was)

pub returns : goal.returns
returns c = let e = given (left (goal.at.returns c).After-branch-answer) c.in_ok-answer.was in gives_ok e.0 e.1
