-- The tables that the code lends, so that four characters go in one step.
use Rattle.std.specs.Prelude.{ℕ, zero, suc, ◌/◌, ◌%◌, ◌<◌, ◌≡◌, List, length, get_or}
use Rattle.std.specs.Int.Bits.{bit_xor}
use Rattle.hash.specs.Table.{entry_of}

-- The list holds T.
pub record Entries (t : List ℕ) : Type 0 where
  pub at : (k : ℕ) → k < 256 → get_or t k 0 ≡ entry_of k

-- A hash, one zero byte on.
unfoldable pub zero_on : ℕ → ℕ
zero_on h = bit_xor (entry_of (h % 256)) (h / 256)

-- So many zero bytes on.
unfoldable pub zeros_on : ℕ → ℕ → ℕ
zeros_on zero h = h
zeros_on (suc k) h = zero_on (zeros_on k h)

-- What the code lends: T, then T one zero byte on, two, and so on to seven. Entry k of it.
unfoldable pub lent_of : ℕ → ℕ
lent_of k = zeros_on (k / 256) (entry_of (k % 256))

-- The list holds all eight.
pub record Tables (t : List ℕ) : Type 0 where
  pub long : length t ≡ 2048
  pub at : (k : ℕ) → k < 2048 → get_or t k 0 ≡ lent_of k
