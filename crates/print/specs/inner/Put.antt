-- Bytes put over a buffer as far as it reaches, and a place that stops at the largest 64-bit number.
use Rattle.std.specs.Prelude.{ℕ, zero, suc, ◌+◌, min, ◌≡◌, List, [], ◌∷◌, length}

-- d with s over its elements from index i on, as far as d reaches.
unfoldable pub overlay : List ℕ → ℕ → List ℕ → List ℕ
overlay [] i s = []
overlay (x ∷ d) zero [] = x ∷ d
overlay (x ∷ d) zero (b ∷ s) = b ∷ overlay d zero s
overlay (x ∷ d) (suc i) s = x ∷ overlay d i s

unfoldable pub sat : ℕ → ℕ
sat n = min n 18446744073709551615

-- s was put over d from index i on: d' is what is there now, and next is where s ends.
pub record Put (d : List ℕ) (i : ℕ) (s : List ℕ) (next : ℕ) (d' : List ℕ) : Type 0 where
  pub next_is : next ≡ sat (i + length s)
  pub bytes_are : d' ≡ overlay d i s
