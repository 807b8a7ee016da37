-- Two characters folded at once.
use Rattle.std.specs.Prelude.{ℕ, ◌/◌, ◌%◌, ◌^◌, ◌<◌, ◌≡◌}
use Rattle.hash.specs.Fold.{folded}

-- Two characters, each in its half of the word w, are folded in r.
pub record FoldedPair (w r : ℕ) : Type 0 where
  pub low : r % 65536 ≡ folded (w % 65536)
  pub high : r / 65536 ≡ folded (w / 65536)
  pub small : r < 2 ^ 32
