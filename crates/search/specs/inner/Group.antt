-- The places of many hashes.
use Rattle.std.specs.Prelude.{ℕ, ◌+◌, ◌≤◌, ◌<◌, ◌≡◌, ◌⊎◌, List, length, get_or}
use Rattle.hash.specs.Hash.{bucket_of}
use Rattle.layout.specs.Table.{Table}
use Rattle.search.specs.declared.Bounds.{Bounds}
use Rattle.search.specs.declared.group.Window.{Window}
use Rattle.search.specs.inner.LowerBound.{LowerBound, Near, Searching}

-- Each of the first n hashes stands at its place in its bucket, or would.
pub record LowerBounds (t : Table) (hashes : List ℕ) (n : ℕ) (low : List ℕ) : Type 0 where
  pub long : length low ≡ 64
  pub each : (j : ℕ) → j < n → LowerBound t (bucket_of t.buckets (get_or hashes j 0)) (get_or hashes j 0) (get_or low j 0)

-- How far the search of hash j has come, in its bucket.
abbrev pub SearchingAt : Table → List ℕ → ℕ → Bounds → Type 0
SearchingAt t hashes j x = Searching t (bucket_of t.buckets (get_or hashes j 0)) (get_or hashes j 0) x

-- How far the searches of the first n hashes have come.
pub record AllSearching (t : Table) (hashes : List ℕ) (n : ℕ) (left : List Bounds) : Type 0 where
  pub long : length left ≡ 64
  pub each : (j : ℕ) → j < n → SearchingAt t hashes j (get_or left j (record { lo = 0; hi = 0 }))

-- The first m of a list are numbers below n.
pub record ListedBelow (n m : ℕ) (xs : List ℕ) : Type 0 where
  pub long : length xs ≡ 64
  pub few : m ≤ 64
  pub each : (i : ℕ) → i < m → get_or xs i 0 < n

-- The hashes at the first m places of a list.
pub record Gathered (hashes which : List ℕ) (m : ℕ) (rest : List ℕ) : Type 0 where
  pub long : length rest ≡ 64
  pub each : (i : ℕ) → i < m → get_or rest i 0 ≡ get_or hashes (get_or which i 0) 0

-- Where hash j is found, in its bucket.
abbrev pub NearAt : Table → List ℕ → ℕ → ℕ → Type 0
NearAt t hashes j r = Near t (bucket_of t.buckets (get_or hashes j 0)) (get_or hashes j 0) r

pub record AllNear (t : Table) (hashes : List ℕ) (n : ℕ) (low : List ℕ) : Type 0 where
  pub long : length low ≡ 64
  pub each : (j : ℕ) → j < n → NearAt t hashes j (get_or low j 0)

-- Number j stands on a list of m, from place i on.
abbrev pub ListedFrom : List ℕ → ℕ → ℕ → ℕ → Type 0
ListedFrom which m i j = (x : ℕ) × (i ≤ x) × (x < m) × (get_or which x 0 ≡ j)

-- Each of the first n hashes is found, or is on a list of m, from place i on.
pub record Looked (t : Table) (hashes : List ℕ) (n : ℕ) (low which : List ℕ) (m i : ℕ) : Type 0 where
  pub lows : length low ≡ 64
  pub listed : ListedBelow n m which
  pub fewer : m ≤ n
  pub each : (j : ℕ) → j < n → NearAt t hashes j (get_or low j 0) ⊎ ListedFrom which m i j

-- Four bytes of the file stand where a window begins, and where its last entry does.
abbrev pub Readable : List ℕ → Window → Type 0
Readable b x = (x.first + 4 ≤ length b) × (x.last + 4 ≤ length b)

-- So they do for the first n of the windows.
pub record Within (b : List ℕ) (n : ℕ) (windows : List Window) : Type 0 where
  pub long : length windows ≡ 64
  pub each : (j : ℕ) → j < n → Readable b (get_or windows j (record { start = 0; first = 0; last = 0 }))

-- Three arrays have the length of a group.
pub record Lengths {A B C : Type 0} (a : List A) (b : List B) (c : List C) : Type 0 where
  pub first : length a ≡ 64
  pub second : length b ≡ 64
  pub third : length c ≡ 64
