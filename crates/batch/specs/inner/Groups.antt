-- A group of texts: what is measured of each, and where its hash stands in the table.
use Rattle.std.specs.Prelude.{ℕ, zero, suc, ◌+◌, ◌-◌, ◌*◌, ◌/◌, ◌%◌, ◌≤◌, ◌<◌, ◌≡◌, List, length, get_or, Option, None, IfSome}
use Rattle.hash.specs.Hash.{hash_text, bucket_of}
use Rattle.text.specs.Text.{text_in}
use Rattle.layout.specs.Table.{Table}
use Rattle.search.specs.inner.LowerBound.{LowerBound}
use Rattle.lookup.specs.inner.PickedEntry.{PickedEntry}
use Rattle.lookup.specs.declared.Kind.{Kind}
use Rattle.lookup.specs.declared.first.Candidate.{Candidate}

-- The text at an offset of the texts has k characters and hash h.
pub record TextRead (texts : List ℕ) (at k h : ℕ) : Type 0 where
  pub long : k ≡ length (text_in texts at ((length texts - at) / 2))
  pub hashed : h ≡ hash_text (text_in texts at ((length texts - at) / 2))

-- Where text j of a group stands whose first is at `at`: each is followed by a 0.
unfoldable pub stands_at : ℕ → List ℕ → ℕ → ℕ
stands_at at lengths zero = at
stands_at at lengths (suc j) = stands_at at lengths j + (2 * get_or lengths j 0 + 2)

-- n texts from `at` on, their lengths and their hashes.
pub record Group (texts : List ℕ) (at n : ℕ) (lengths hashes : List ℕ) : Type 0 where
  pub few : n ≤ 64
  pub lengths_long : length lengths ≡ 64
  pub hashes_long : length hashes ≡ 64
  pub within : (j : ℕ) → j < n → stands_at at lengths j < length texts
  pub read : (j : ℕ) → j < n → TextRead texts (stands_at at lengths j) (get_or lengths j 0) (get_or hashes j 0)

-- The low half of each of the first n is where its hash stands in its bucket, or would.
pub record PackedBounds (t : Table) (hashes : List ℕ) (n : ℕ) (low : List ℕ) : Type 0 where
  pub long : length low ≡ 64
  pub each : (j : ℕ) → j < n → LowerBound t (bucket_of t.buckets (get_or hashes j 0)) (get_or hashes j 0) (get_or low j 0 % 4294967296)

-- A character of the file stands where each of the first n candidates starts and where it ends.
pub record Texts (b : List ℕ) (n : ℕ) (picked : List (Option Candidate)) : Type 0 where
  pub long : length picked ≡ 64
  pub each : (j : ℕ) → j < n → IfSome (get_or picked j None) (λ c. (c.text + 2 ≤ length b) × (c.end + 2 ≤ length b))

-- For each of the first n either nothing is picked or an entry that bears as many characters as its text has.
pub record Picked (kind : Kind) (t : Table) (lengths : List ℕ) (n : ℕ) (picked : List (Option Candidate)) : Type 0 where
  pub long : length picked ≡ 64
  pub each : (j : ℕ) → j < n → IfSome (get_or picked j None) (PickedEntry kind t (get_or lengths j 0))

-- The low halves of two lists are the same.
pub record SameLow (a b : List ℕ) : Type 0 where
  pub long : length b ≡ length a
  pub each : (j : ℕ) → get_or b j 0 % 4294967296 ≡ get_or a j 0 % 4294967296
