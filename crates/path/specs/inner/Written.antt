-- What one walk of the tree leaves in a listing, whether it counts or writes.
use Rattle.std.specs.Prelude.{ℕ, ◌+◌, ◌*◌, ◌≤◌, ◌≡◌, List, length}
use Rattle.laws.specs.inner.Lists.{splice}
use Rattle.path.specs.Listing.{encode}

-- The nodes l were listed from place k of d on: `next` is the place after them, and where that is no further than d reaches, d' holds them.
pub record Wrote (d : List ℕ) (k : ℕ) (l : List ℕ) (next : ℕ) (d' : List ℕ) : Type 0 where
  pub next_is : next ≡ k + length l
  pub size : length d' ≡ length d
  pub bytes_are : 4 * next ≤ length d → d' ≡ splice d (4 * k) (encode l)
