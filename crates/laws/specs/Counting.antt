-- How many of some numbers meet a rule, and sums.
use Rattle.std.specs.Prelude.{ℕ, zero, suc, ◌+◌}

-- 1 where a rule holds, and 0 where it does not.
unfoldable pub one_if : {P : Type 0} → Dec P → ℕ
one_if (yes p) = 1
one_if (no f) = 0

-- How many of the numbers below n meet a rule.
unfoldable pub how_many : (n : ℕ) {P : ℕ → Type 0} → ((i : ℕ) → Dec (P i)) → ℕ
how_many zero d = 0
how_many (suc n) d = how_many n d + one_if (d n)

-- The sum of f i for the numbers i below n.
unfoldable pub sum_below : ℕ → (ℕ → ℕ) → ℕ
sum_below zero f = 0
sum_below (suc n) f = sum_below n f + f n
