-- What an array of 1,024 slots remembers of a function of two numbers: in each slot the numbers, and the value of the function there.
use Rattle.std.specs.Prelude.{ℕ, ◌+◌, ◌<◌, ◌≡◌, List, length, get_or, Option, Some}

-- Every slot is right about F.
pub record Remembers (F : ℕ → ℕ → ℕ) (memo : List ℕ) : Type 0 where
  pub long : length memo ≡ 3072
  pub slot : (s : ℕ) → s < 1024 → get_or memo (2048 + s) 0 ≡ F (get_or memo s 0) (get_or memo (1024 + s) 0)

-- What is remembered of x and n, if anything is.
pub record Recalled (memo : List ℕ) (x n : ℕ) (r : Option ℕ) : Type 0 where
  pub right : (v : ℕ) → r ≡ Some v → (F : ℕ → ℕ → ℕ) → Remembers F memo → v ≡ F x n

-- A slot is taken over by x and n, of which v is remembered.
pub record TakenOver (before : List ℕ) (x n v : ℕ) (after : List ℕ) : Type 0 where
  pub right : (F : ℕ → ℕ → ℕ) → Remembers F before → v ≡ F x n → Remembers F after
