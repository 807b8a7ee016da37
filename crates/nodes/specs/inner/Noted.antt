-- What is remembered of long texts, by where they stand and how many characters are left there.
use Rattle.std.specs.Prelude.{ℕ, ◌-◌, cond, List, ltb}
use Rattle.hash.specs.Hash.{hash_text}
use Rattle.hash.specs.Fold.{value_hash}
use Rattle.text.specs.Text.{text_in}

-- At x and n the value hash of the text there, and at x and n + 65,536 its hash. No segment has so many characters.
unfoldable pub noted : List ℕ → ℕ → ℕ → ℕ
noted b x n = cond (ltb n 65536) (value_hash (text_in b x n)) (hash_text (text_in b x (n - 65536)))
