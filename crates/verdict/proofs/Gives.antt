-- Answers that come with a value where nothing is refused, and how a refusal goes on from one answer to the next. Assumes nothing.
use mathlib.Core.Path.{◌≡◌, ap, sym, subst, ◌∙◌}
use Rattle.std.specs.Prelude.{Result, Ok, Err}
use Rattle.std.specs.Result.{IsErrAnd}
use Rattle.std.proofs.lemmas.Result.{err_from_is_err_and}
use Rattle.verdict.specs.Verdict.{Verdict, Accepted, refused, answer_of}
use Rattle.verdict.specs.declared.Refusal.{Refusal}
use Rattle.verdict.specs.inner.Gives.{Gives}

module _ {T : Type 0} {v : Verdict} {P : T → Type 0} where
  -- a value, where nothing is refused
  pub gives_ok : {x : T} → v ≡ Accepted → P x → Gives v P (Ok x)
  gives_ok {x} h p = record { answer = sym h; value = λ y e. let q : x ≡ y = cc in subst P q p }

  -- a refusal
  pub gives_err : {r : Refusal} → v ≡ refused r → Gives v P (Err r)
  gives_err {r} h = record { answer = sym h; value = λ y e. absurd (cc) }

  -- an answer that is known to be a value, or a refusal
  module _ {a : Result T Refusal} (g : Gives v P a) where
    pub given : {x : T} → a ≡ Ok x → (v ≡ Accepted) × P x
    given {x} e = (sym g.answer ∙ ap answer_of e, g.value x e)

    pub refuses : {r : Refusal} → a ≡ Err r → v ≡ refused r
    refuses e = sym g.answer ∙ ap answer_of e

-- the same of an answer with no more to it than what it says
module _ {T : Type 0} {v : Verdict} {a : Result T Refusal} (g : answer_of a ≡ v) where
  pub clean_of : {x : T} → a ≡ Ok x → v ≡ Accepted
  clean_of e = sym g ∙ ap answer_of e

  pub refused_of : {r : Refusal} → a ≡ Err r → v ≡ refused r
  refused_of e = sym g ∙ ap answer_of e

-- a `?` ends a function with the refusal that it met
pub gives_exit : {T : Type 0} {v : Verdict} {P : T → Type 0} (a : Result T Refusal) (r : Refusal) → IsErrAnd a (λ q. q ≡ r) → v ≡ refused r → Gives v P a
gives_exit a r h q = let e = err_from_is_err_and a h in rw (e.1, e.2) (gives_err q)

pub says_exit : {T : Type 0} {v : Verdict} (a : Result T Refusal) (r : Refusal) → IsErrAnd a (λ q. q ≡ r) → v ≡ refused r → answer_of a ≡ v
says_exit a r h q = let e = err_from_is_err_and a h in rw (e.1, e.2) (sym q)
