-- Numbers that the entries of a table bear, each another one: as many entries as numbers bear them all. Assumes nothing.
use Prim.Native.Nat.{ℕ, zero, suc, ◌≤◌, ◌<◌}
use native.Mathlib.Omega.{arith}
use mathlib.Core.Path.{◌≡◌, refl, ap, sym, ◌∙◌}
use mathlib.Core.Logic.{⊎_elim}
use mathlib.Core.List.Memᴰ
use mathlib.Core.List.{List, [], ◌∷◌, ◌++◌, Memᴰ}
use lib.ListN.{length, length-append}
use Rattle.laws.specs.Counting.{sum_below}
use Rattle.verdict.specs.Checks.{SomeBelow}
use Rattle.layout.specs.Table.{Table, entries}
use Rattle.positions.specs.inner.Total.{all_entries}
use Rattle.laws.proofs.Pigeon.{Once, once-none, once_more, once-append, pigeon_all}

-- those of the first n entries of bucket k
unfoldable numbers_in : (ℕ → ℕ → ℕ) → ℕ → ℕ → List ℕ
numbers_in f k zero = []
numbers_in f k (suc n) = f k n ∷ numbers_in f k n

-- and of the first n buckets
unfoldable numbers : Table → (ℕ → ℕ → ℕ) → ℕ → List ℕ
numbers t f zero = []
numbers t f (suc n) = numbers_in f n (entries t n) ++ numbers t f n

module _ (t : Table) (f : ℕ → ℕ → ℕ) where
  in_long : (k n : ℕ) → length (numbers_in f k n) ≡ n
  unfolding numbers_in
  in_long k zero = refl
  in_long k (suc n) = ap suc (in_long k n)

  long : (n : ℕ) → length (numbers t f n) ≡ sum_below n (entries t)
  unfolding numbers sum_below
  long zero = refl
  long (suc n) = omega (arith, length-append (numbers_in f n (entries t n)) (numbers t f n), in_long n (entries t n), long n)

  in_inv : (k n e : ℕ) → Memᴰ e (numbers_in f k n) → SomeBelow n (λ j. f k j ≡ e)
  unfolding numbers_in
  in_inv k zero e h = absurd (Memᴰ.not-nil h)
  in_inv k (suc n) e h =
      ⊎_elim (λ q. (n, omega arith, sym q)) (λ m. let w = in_inv k n e m in (w.0, omega (arith, w.1), w.2)) (Memᴰ.cases_cons h)

  inv : (n e : ℕ) → Memᴰ e (numbers t f n) → SomeBelow n (λ k. SomeBelow (entries t k) (λ j. f k j ≡ e))
  unfolding numbers
  inv zero e h = absurd (Memᴰ.not-nil h)
  inv (suc n) e h =
      ⊎_elim (λ m. (n, omega arith, in_inv n (entries t n) e m)) (λ m. let w = inv n e m in (w.0, omega (arith, w.1), w.2))
      (Memᴰ.append_cases (numbers_in f n (entries t n)) h)

  -- no two entries have one number
  module _ (other : (k j m i : ℕ) → k < t.buckets → j < entries t k → m < t.buckets → i < entries t m → f k j ≡ f m i → (k ≡ m) × (j ≡ i)) where
    in_once : (k n : ℕ) → k < t.buckets → n ≤ entries t k → Once (numbers_in f k n)
    unfolding numbers_in
    in_once k zero h l = once-none
    in_once k (suc n) h l = once_more _ _ (λ m. again (in_inv k n _ m)) (in_once k n h (omega arith))
      where
        again : SomeBelow n (λ j. f k j ≡ f k n) → ⊥
        again w = omega (arith, w.1, (other k w.0 k n h (omega (arith, w.1)) h l w.2).1)

    once : (n : ℕ) → n ≤ t.buckets → Once (numbers t f n)
    unfolding numbers
    once zero l = once-none
    once (suc n) l = once-append _ _ (in_once n (entries t n) l (omega arith)) (once n (omega arith))
        (λ e a b. let w = in_inv n (entries t n) e a in let v = inv n e b in
        omega (arith, v.1, (other v.0 v.2.0 n w.0 (omega (arith, v.1)) v.2.1 l w.1 (v.2.2 ∙ sym w.2)).0))

    pub all_taken : (n : ℕ) → n ≤ all_entries t → ((k j : ℕ) → k < t.buckets → j < entries t k → f k j < n)
        → (i : ℕ) → i < n → SomeBelow t.buckets (λ k. SomeBelow (entries t k) (λ j. f k j ≡ i))
    unfolding all_entries
    all_taken n l below i h =
        inv t.buckets i
        (pigeon_all n (numbers t f t.buckets) (once t.buckets (omega arith))
        (λ e m. let w = inv t.buckets e m in omega (arith, below w.0 w.2.0 w.1 w.2.1, w.2.2)) (omega (arith, long t.buckets)) i h)
