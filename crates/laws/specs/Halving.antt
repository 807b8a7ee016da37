-- The search by halving (request T-03), over any numbers that do not fall: f i is the number at place i.
use Rattle.std.specs.Prelude.{ℕ, zero, suc, ◌+◌, ◌-◌, ◌/◌, ◌^◌, ◌≤◌, ◌<◌, ◌≡◌, cond, ltb}

-- The numbers at the first n places do not fall.
abbrev pub Ascending : (ℕ → ℕ) → ℕ → Type 0
Ascending f n = (i j : ℕ) → i ≤ j → j < n → f i ≤ f j

-- r is the first of n places whose number is not below x, or n where there is none: the numbers before it are below x, from it on none is.
pub record FirstNotBelow (f : ℕ → ℕ) (n x r : ℕ) : Type 0 where
  pub upto : r ≤ n
  pub below : (m : ℕ) → m < r → f m < x
  pub above : (m : ℕ) → r ≤ m → m < n → x ≤ f m

unfoldable pub middle : ℕ → ℕ → ℕ
middle lo hi = lo + (hi - lo) / 2

-- What is left lies from lo on and before hi. A round reads one number, the one in the middle, and keeps the half in front of it or the half
-- behind it. Where nothing is left, lo is the answer. The first argument after x is the number of rounds that are left; it falls by one a round.
unfoldable pub halving : (ℕ → ℕ) → ℕ → ℕ → ℕ → ℕ → ℕ
halving f x zero lo hi = lo
halving f x (suc left) lo hi =
    cond (ltb lo hi)
    (cond (ltb (f (middle lo hi)) x) (halving f x left (middle lo hi + 1) hi) (halving f x left lo (middle lo hi)))
    lo

-- k is the least number with 2 to the k above n.
pub record Rounds (n k : ℕ) : Type 0 where
  pub enough : n < 2 ^ k
  pub least : (m : ℕ) → n < 2 ^ m → k ≤ m

-- What is proved of it, by proofs/Halving `halving_laws`, where the n numbers do not fall and k is the least number with 2 to the k above n.
pub record HalvingLaws (f : ℕ → ℕ) (n x k : ℕ) : Type 0 where
  -- It stops at the first place whose number is not below x, or at n where there is none ..
  pub first : FirstNotBelow f n x (halving f x k 0 n)
  -- .. and it does so after at most k rounds: rounds more change nothing.
  pub stopped : (more : ℕ) → halving f x (k + more) 0 n ≡ halving f x k 0 n
