-- What a search by halving has come to.
use Rattle.std.specs.Prelude.{ℕ, ◌+◌, ◌^◌, ◌≤◌, ◌<◌, ◌≡◌}
use Rattle.laws.specs.Halving.{halving}

-- What is left lies from lo on and before hi, among n numbers. The rounds left are enough for it, and lead to r.
pub record Halfway (f : ℕ → ℕ) (n x r left lo hi : ℕ) : Type 0 where
  pub high : hi ≤ n
  pub room : hi < lo + 2 ^ left
  pub leads : halving f x left lo hi ≡ r
