-- What the search of a bucket finds, and how. The hashes of a bucket that passed 7 to 12 ascend; how it is searched is said without that, so
-- that it says which entries are read.
use Rattle.std.specs.Prelude.{ℕ, zero, suc, ◌+◌, ◌-◌, ◌≤◌, ◌≡◌, cond, ltb}
use Rattle.laws.specs.Halving.{FirstNotBelow, halving, Rounds}
use Rattle.laws.specs.inner.Halfway.{Halfway}
use Rattle.layout.specs.Table.{Table, entries, hash_of}
use Rattle.search.specs.declared.Bounds.{Bounds}

-- r is the first entry of bucket k whose hash is not below h, or the bucket's end.
abbrev pub LowerBound : Table → ℕ → ℕ → ℕ → Type 0
LowerBound t k h r = FirstNotBelow (hash_of t k) (entries t k) h r

-- r is where the halving of bucket k stops, with the rounds that its count allows: one entry is read a round.
pub record Halved (t : Table) (k h r : ℕ) : Type 0 where
  pub rounds : ℕ
  pub allowed : Rounds (entries t k) rounds
  pub stops : r ≡ halving (hash_of t k) h rounds 0 (entries t k)

-- How many of the m numbers from place w on are below x. Each is read once.
unfoldable pub count_below : (ℕ → ℕ) → ℕ → ℕ → ℕ → ℕ
count_below f x w zero = 0
count_below f x w (suc m) = cond (ltb (f (w + m)) x) (count_below f x w m + 1) (count_below f x w m)

-- Place i of n, or the last one.
unfoldable pub or_last : ℕ → ℕ → ℕ
or_last i n = cond (ltb i n) i (n - 1)

-- How many of n numbers are below x, where these are at most eight: eight are read, the last one as often as it takes.
unfoldable pub count_few : (ℕ → ℕ) → ℕ → ℕ → ℕ
count_few f x n =
    let c = count_below (λ i. f (or_last i n)) x 0 8 in
    cond (ltb c n) c n

-- c of the eight from w on are below the hash: it is above one of them, or these are the first; and not above one, or these are the last of n.
pub record Settled (w c n : ℕ) : Type 0 where
  pub first : c ≡ 0 → w ≡ 0
  pub last : c ≡ 8 → w + 8 ≡ n

-- How r is found: of a bucket of at most eight entries by a count of all; of another by a count of eight from w on, or, where these
-- do not tell, by halving. So no more is read than eight entries and one for each round that the bucket's count allows.
pub data Near (t : Table) (k h r : ℕ) : Type 0 where
  few : entries t k ≤ 8 → r ≡ count_few (hash_of t k) h (entries t k) → Near t k h r
  eight : (w : ℕ) → w + 8 ≤ entries t k → Settled w (count_below (hash_of t k) h w 8) (entries t k) → r ≡ w + count_below (hash_of t k) h w 8
      → Near t k h r
  halved : Halved t k h r → Near t k h r

-- How far the search of hash h in bucket k has come. What is left lies from x.lo on and before x.hi: nothing, where the entries that were read told
-- where it stands; or what the halving of the bucket has come to.
pub data Searching (t : Table) (k h : ℕ) (x : Bounds) : Type 0 where
  told : x.hi ≤ x.lo → Near t k h x.lo → Searching t k h x
  going_on : (rounds left : ℕ) → Rounds (entries t k) rounds
      → Halfway (hash_of t k) (entries t k) h (halving (hash_of t k) h rounds 0 (entries t k)) left x.lo x.hi → Searching t k h x
