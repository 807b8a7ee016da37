-- Characters that are 0: each ends a text.
use Rattle.std.specs.Prelude.{ℕ, zero, suc, ◌+◌, ◌*◌, cond, List, eqb}
use Rattle.le.specs.Le.{u16_at}

-- How many of the n characters from an offset on are 0.
unfoldable pub zeros_in : List ℕ → ℕ → ℕ → ℕ
zeros_in b p zero = 0
zeros_in b p (suc n) = cond (eqb (u16_at b (p + 2 * n)) 0) 1 0 + zeros_in b p n
