-- What the code keeps of a region so that an address costs no walk: every 2 ^ shift-th segment's start, or running used count.
use Rattle.std.specs.Prelude.{ℕ, ◌+◌, ◌*◌, ◌^◌, ◌≤◌, ◌<◌, ◌≡◌, List, length, get_or}
use Rattle.region.specs.Region.{Laid, count_of, start_of, before_of}
use Rattle.region.specs.declared.Region.{Region}

-- xs holds f at each multiple of m below n.
pub record Sampled (f : ℕ → ℕ) (m n : ℕ) (xs : List ℕ) : Type 0 where
  pub at : (k : ℕ) → k * m < n → get_or xs k 0 ≡ f (k * m)

-- The shift is right for n segments and 1024 samples, and the mask goes with it.
pub record Stride (n shift mask : ℕ) : Type 0 where
  pub low : shift ≤ 6
  pub mask_is : mask + 1 ≡ 2 ^ shift
  pub reach : n ≤ 1024 * 2 ^ shift

-- The code's region is the one laid at offset at of the file.
pub record Mapped (size : ℕ) (b : List ℕ) (at : ℕ) (r : Region) : Type 0 where
  pub solid : 1 ≤ size
  pub thin : size ≤ 24
  pub short : length b < 2 ^ 32
  pub at_is : r.at ≡ at
  pub count_is : r.count ≡ count_of b at
  pub laid : Laid size b at
  pub stride : Stride r.count r.shift r.mask

-- Its samples: where segments start, and how many used elements are before them.
pub record Starts (size : ℕ) (b : List ℕ) (at shift : ℕ) (xs : List ℕ) : Type 0 where
  pub long : length xs ≡ 1024
  pub sampled : Sampled (start_of size b at) (2 ^ shift) (count_of b at) xs

pub record Counts (size : ℕ) (b : List ℕ) (at shift : ℕ) (xs : List ℕ) : Type 0 where
  pub long : length xs ≡ 1024
  pub sampled : Sampled (before_of size b at) (2 ^ shift) (count_of b at) xs
