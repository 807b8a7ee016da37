-- Answers that come with a value where nothing is refused.
use Rattle.std.specs.Prelude.{ℕ, ◌≡◌, Result, Ok}
use Rattle.verdict.specs.Verdict.{Verdict, answer_of}
use Rattle.verdict.specs.declared.Refusal.{Refusal}

-- The answer says v; a value that comes with it is one for which P.
pub record Gives {T : Type 0} (v : Verdict) (P : T → Type 0) (r : Result T Refusal) : Type 0 where
  pub answer : answer_of r ≡ v
  pub value : (x : T) → r ≡ Ok x → P x

-- The answer says v; an offset that comes with it is e.
abbrev pub Ends : Verdict → ℕ → Result ℕ Refusal → Type 0
Ends v e = Gives v (λ x. x ≡ e)
