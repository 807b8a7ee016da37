-- Laws of counting. Assumes nothing.
use Prim.Native.Nat.{ℕ, zero, suc, ◌+◌, ◌-◌, ◌≤◌, ◌<◌}
use native.Mathlib.Nat.{not-suc-le-zero}
use native.Mathlib.Omega.{arith}
use mathlib.Core.Path.{◌≡◌, refl, ap, sym}
use mathlib.Core.Logic.{◌⊎◌, ⊎_elim}
use Rattle.laws.specs.Counting.{one_if, how_many, sum_below}
use Rattle.laws.proofs.Order.{le_or_lt}

if_met : {P : Type 0} (d : Dec P) → P → one_if d ≡ 1
unfolding one_if
if_met (yes q) p = refl
if_met (no f) p = absurd (f p)

if_missed : {P : Type 0} (d : Dec P) → (P → ⊥) → one_if d ≡ 0
unfolding one_if
if_missed (yes q) f = absurd (f q)
if_missed (no g) f = refl

-- where one is counted, it is met
met_if : {P : Type 0} (d : Dec P) → 1 ≤ one_if d → P
unfolding one_if
met_if (yes q) l = q
met_if (no g) l = absurd (omega arith)

if_most : {P : Type 0} (d : Dec P) → one_if d ≤ 1
unfolding one_if
if_most (yes q) = omega arith
if_most (no g) = omega arith

if_split : {P Q R : Type 0} (d : Dec P) (e : Dec Q) (f : Dec R) → (P → Q ⊎ R) → (Q → P) → (R → P) → (Q → R → ⊥) → one_if d ≡ one_if e + one_if f
unfolding one_if
if_split (yes p) (yes q) (yes r) a b c x = absurd (x q r)
if_split (yes p) (yes q) (no r) a b c x = refl
if_split (yes p) (no q) (yes r) a b c x = refl
if_split (yes p) (no q) (no r) a b c x = absurd (⊎_elim q r (a p))
if_split (no p) (yes q) f a b c x = absurd (p (b q))
if_split (no p) (no q) (yes r) a b c x = absurd (p (c r))
if_split (no p) (no q) (no r) a b c x = refl

-- ---- how many

module _ {P : ℕ → Type 0} (d : (i : ℕ) → Dec (P i)) where
  -- none
  pub count_none : (n : ℕ) → ((i : ℕ) → i < n → P i → ⊥) → how_many n d ≡ 0
  unfolding how_many
  count_none zero f = refl
  count_none (suc n) f = let r = count_none n (λ i l. f i (omega arith)) in omega (arith, r, if_missed (d n) (f n (omega arith)))

  -- at most all
  pub count_most : (n : ℕ) → how_many n d ≤ n
  unfolding how_many
  count_most zero = omega arith
  count_most (suc n) = omega (arith, count_most n, if_most (d n))

  -- exactly those from a on and before z
  pub count_span : (n a z : ℕ) → a ≤ z → z ≤ n → ((i : ℕ) → i < a → P i → ⊥) → ((i : ℕ) → a ≤ i → i < z → P i)
      → ((i : ℕ) → z ≤ i → i < n → P i → ⊥) → how_many n d ≡ z - a
  unfolding how_many
  count_span zero a z l m before in-it after = omega arith
  count_span (suc n) a z l m before in-it after =
      ⊎_elim
      (λ (e : z ≤ n). let r = count_span n a z l e before in-it (λ i h k. after i h (omega arith)) in omega (arith, r, if_missed (d n) (after n e (omega arith))))
      -- the last one is in it, or none is
      (λ (e : n < z). ⊎_elim
      (λ (g : a ≤ n).
      let r = count_span n a n g (omega arith) before (λ i h k. in-it i h (omega arith)) (λ i h k. absurd (omega arith)) in
      omega (arith, r, if_met (d n) (in-it n g (omega arith))))
      (λ (g : n < a). omega (arith, count_none n (λ i h. before i (omega arith)), if_missed (d n) (before n g)))
      (le_or_lt a n))
      (le_or_lt z n)

  -- one more number
  pub count-met : (n m : ℕ) → m ≡ n + 1 → P n → how_many m d ≡ how_many n d + 1
  unfolding how_many
  count-met n m e p = let q : m ≡ suc n = omega arith in rw q (omega (arith, if_met (d n) p))

  pub count_missed : (n m : ℕ) → m ≡ n + 1 → (P n → ⊥) → how_many m d ≡ how_many n d
  unfolding how_many
  count_missed n m e f = let q : m ≡ suc n = omega arith in rw q (omega (arith, if_missed (d n) f))

  -- all
  pub count-all : (n : ℕ) → ((i : ℕ) → i < n → P i) → how_many n d ≡ n
  unfolding how_many
  count-all zero f = refl
  count-all (suc n) f = omega (arith, count-all n (λ i l. f i (omega arith)), if_met (d n) (f n (omega arith)))

  -- where some are counted, there is one
  pub count-some : (n : ℕ) → 1 ≤ how_many n d → (i : ℕ) × (i < n) × P i
  unfolding how_many
  count-some zero l = absurd (omega arith)
  count-some (suc n) l =
      ⊎_elim
      (λ h. let w = count-some n h in (w.0, omega (arith, w.1), w.2))
      (λ h. (n, omega arith, met_if (d n) (omega arith)))
      (le_or_lt 1 (how_many n d))

  -- where there is one, some are counted
  pub some_counted : (n i : ℕ) → i < n → P i → 1 ≤ how_many n d
  unfolding how_many
  some_counted zero i l p = absurd (not-suc-le-zero l)
  some_counted (suc n) i l p =
      ⊎_elim
      (λ (h : n ≤ i). let e : i ≡ n = omega arith in omega (arith, if_met (d n) (rw (sym e) p)))
      (λ h. omega (arith, some_counted n i h p))
      (le_or_lt n i)

-- a rule that one of two others says, never both
pub count-split : {P Q R : ℕ → Type 0} (d : (i : ℕ) → Dec (P i)) (e : (i : ℕ) → Dec (Q i)) (f : (i : ℕ) → Dec (R i)) (n : ℕ)
    → ((i : ℕ) → i < n → P i → Q i ⊎ R i) → ((i : ℕ) → i < n → Q i → P i) → ((i : ℕ) → i < n → R i → P i)
    → ((i : ℕ) → i < n → Q i → R i → ⊥) → how_many n d ≡ how_many n e + how_many n f
unfolding how_many
count-split d e f zero a b c x = refl
count-split d e f (suc n) a b c x =
    let r = count-split d e f n (λ i l. a i (omega arith)) (λ i l. b i (omega arith)) (λ i l. c i (omega arith)) (λ i l. x i (omega arith)) in
    omega (arith, r, if_split (d n) (e n) (f n) (a n (omega arith)) (b n (omega arith)) (c n (omega arith)) (x n (omega arith)))

-- ---- sums

module _ (f : ℕ → ℕ) where
  pub sum-none : (n : ℕ) → ((i : ℕ) → i < n → f i ≡ 0) → sum_below n f ≡ 0
  unfolding sum_below
  sum-none zero g = refl
  sum-none (suc n) g = omega (arith, sum-none n (λ i l. g i (omega arith)), g n (omega arith))

  -- only one is not 0
  pub sum_one : (n k : ℕ) → k < n → ((i : ℕ) → i < n → (i ≡ k → ⊥) → f i ≡ 0) → sum_below n f ≡ f k
  unfolding sum_below
  sum_one zero k l g = absurd (not-suc-le-zero l)
  sum_one (suc n) k l g =
      ⊎_elim
      (λ (h : n ≤ k). let e : k ≡ n = omega arith in omega (arith, sum-none n (λ i m. g i (omega arith) (λ q. omega arith)), ap f e))
      (λ h. omega (arith, sum_one n k h (λ i m q. g i (omega arith) q), g n (omega arith) (λ q. omega arith)))
      (le_or_lt n k)

  -- where a sum is not 0, one of its numbers is not
  pub sum-some : (n : ℕ) → 1 ≤ sum_below n f → (i : ℕ) × (i < n) × (1 ≤ f i)
  unfolding sum_below
  sum-some zero l = absurd (omega arith)
  sum-some (suc n) l =
      ⊎_elim
      (λ h. let w = sum-some n h in (w.0, omega (arith, w.1), w.2))
      (λ h. (n, omega arith, omega arith))
      (le_or_lt 1 (sum_below n f))

  pub some_summed : (n i : ℕ) → i < n → f i ≤ sum_below n f
  unfolding sum_below
  some_summed zero i l = absurd (not-suc-le-zero l)
  some_summed (suc n) i l =
      ⊎_elim
      (λ (h : n ≤ i). let e : i ≡ n = omega arith in omega (arith, ap f e))
      (λ h. omega (arith, some_summed n i h))
      (le_or_lt n i)

  -- one more number
  pub sum_more : (n m : ℕ) → m ≡ n + 1 → sum_below m f ≡ sum_below n f + f n
  unfolding sum_below
  sum_more n m e = let q : m ≡ suc n = omega arith in rw q refl

  -- a sum of fewer numbers
  pub sum-fewer : (n m : ℕ) → n ≤ m → sum_below n f ≤ sum_below m f
  unfolding sum_below
  sum-fewer n zero l = let e : n ≡ 0 = omega arith in rw e (omega arith)
  sum-fewer n (suc m) l =
      ⊎_elim
      (λ (h : n ≤ m). omega (arith, sum-fewer n m h))
      (λ (h : m < n). let e : n ≡ suc m = omega arith in rw e (omega arith))
      (le_or_lt n m)

module _ (f g : ℕ → ℕ) where
  -- smaller numbers
  pub sum-at-most : (n : ℕ) → ((i : ℕ) → i < n → f i ≤ g i) → sum_below n f ≤ sum_below n g
  unfolding sum_below
  sum-at-most zero h = omega arith
  sum-at-most (suc n) h = omega (arith, sum-at-most n (λ i l. h i (omega arith)), h n (omega arith))

  pub sum_same : (n : ℕ) → ((i : ℕ) → i < n → f i ≡ g i) → sum_below n f ≡ sum_below n g
  unfolding sum_below
  sum_same zero h = refl
  sum_same (suc n) h = omega (arith, sum_same n (λ i l. h i (omega arith)), h n (omega arith))

  -- numbers added
  pub sum_added : (n : ℕ) (h : ℕ → ℕ) → ((i : ℕ) → i < n → h i ≡ f i + g i) → sum_below n h ≡ sum_below n f + sum_below n g
  unfolding sum_below
  sum_added zero h e = refl
  sum_added (suc n) h e = omega (arith, sum_added n h (λ i l. e i (omega arith)), e n (omega arith))
