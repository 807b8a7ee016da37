-- Refusals (FORMAT, "Refusals"): checks as data, in the order in which they are to run, and the first that does not hold.
use Rattle.std.specs.Prelude.{◌≡◌, ℕ, zero, suc, ◌+◌, ◌≤◌, ◌<◌, List, [], ◌∷◌, ◌++◌}
use Rattle.std.proofs.Math.Decide.{dec_le, ℕ_discrete}
use Rattle.verdict.specs.Verdict.{Verdict, Accepted, Refused}

-- A refusal's number, its place, what is to hold, and how that is decided.
pub data Check : Type 1 where
  check : ℕ → ℕ → (P : Type 0) → Dec P → Check

-- The first check that does not hold refuses with its number and place; where all hold, nothing is refused.
unfoldable pub first_fault : List Check → Verdict
first_fault [] = Accepted
first_fault (check n p P (yes h) ∷ cs) = first_fault cs
first_fault (check n p P (no h) ∷ cs) = Refused n p

-- Every rule of a list of checks holds.
unfoldable pub Holds : List Check → Type 0
Holds [] = Unit
Holds (check n p P d ∷ cs) = P × Holds cs

-- The rule numbered n, with place p, is the first of a list of checks that is broken: every rule before it in the list holds.
pub record FirstBroken (cs : List Check) (n p : ℕ) : Type 1 where
  pub before : List Check
  pub rule : Type 0
  pub decided : Dec rule
  pub after : List Check
  pub order : cs ≡ before ++ (check n p rule decided ∷ after)
  pub hold : Holds before
  pub broken : rule → ⊥

-- The checks f i, then f (i + 1), .. so many.
unfoldable pub each : (ℕ → List Check) → ℕ → ℕ → List Check
each f zero i = []
each f (suc n) i = f i ++ each f n (i + 1)

-- Two kinds of check that come often: a number is at most another, and a number is another.
abbrev pub at_most : ℕ → ℕ → ℕ → ℕ → Check
at_most n p a b = check n p (a ≤ b) (dec_le a b)

abbrev pub equal : ℕ → ℕ → ℕ → ℕ → Check
equal n p a b = check n p (a ≡ b) (ℕ_discrete a b)

-- There is one below n for which P.
abbrev pub SomeBelow : ℕ → (ℕ → Type 0) → Type 0
SomeBelow n P = (i : ℕ) × (i < n) × P i
