-- The search by halving: it finds the first number that is not below the one asked for, in as many rounds as it has. Assumes nothing.
use Prim.Native.Nat.{ℕ, zero, suc, ◌+◌, ◌-◌, ◌*◌, ◌/◌, ◌^◌, ◌≤◌, ◌<◌}
use native.Mathlib.Nat.{pow-le-pow_right, pow-suc}
use native.Mathlib.Numerals.{add-one}
use native.Mathlib.Omega.{arith}
use mathlib.Core.Path.{◌≡◌, refl, ap, subst, sym, ◌∙◌}
use mathlib.Core.Logic.{⊎_elim}
use lib.Dec.{lit<}
use borrow.Author.Tests.{lt-ltb, le-ltb}
use Rattle.laws.specs.Halving.{Ascending, FirstNotBelow, middle, halving, Rounds, HalvingLaws}
use Rattle.laws.specs.inner.Halfway.{Halfway}
use Rattle.laws.proofs.Order.{le_or_lt}

-- ---- rounds

-- one round more than j doubles what can be searched
two_pow : (j : ℕ) → 2 ^ (suc j) ≡ 2 ^ j + 2 ^ j
two_pow j = let w = pow-suc 2 j in omega arith

-- p is 2 to the k, and no fewer would do
pub record Powers (n k p : ℕ) : Type 0 where
  pub power : p ≡ 2 ^ k
  pub few : p ≤ 2 * n + 1
  pub short : k + 1 ≤ p
  pub least : (m : ℕ) → n < 2 ^ m → k ≤ m

pub powers_start : (n : ℕ) → Powers n 0 1
powers_start n = record { power = omega arith; few = omega arith; short = omega arith; least = λ m h. omega arith }

pub powers_more : (n k p : ℕ) → Powers n k p → p ≤ n → Powers n (k + 1) (p * 2)
powers_more n k p r l =
    let d = ap (λ (x : ℕ). 2 ^ x) (add-one k) in
    let w = two_pow k in
    record {
      power = omega (arith, r.power);
      few = omega arith;
      short = omega (arith, r.short);
      least = λ m g. ⊎_elim
          (λ f. absurd (omega (arith, r.power, pow-le-pow_right {n = 2} (lit< tt) {i = m} {j = k} f)))
          (λ f. omega arith)
          (le_or_lt m k);
    }

pub powers_end : (n k p : ℕ) → Powers n k p → n < p → Rounds n k
powers_end n k p r l = record { enough = omega (arith, r.power); least = r.least }

pub rounds-of : (m n k : ℕ) → m ≡ n → Rounds m k → Rounds n k
rounds-of m n k e r = subst (λ (x : ℕ). Rounds x k) e r

-- there is such a k for every n
pub some-rounds : (n : ℕ) → (k : ℕ) × Rounds n k
some-rounds zero = (0, record { enough = omega arith; least = λ m h. omega arith })
some-rounds (suc n) =
    let (k, r) = some-rounds n in
    ⊎_elim
    (λ (l : 2 ^ k ≤ suc n). (
      suc k,
      record {
        enough = omega (arith, two_pow k, r.enough);
        least = λ m h. ⊎_elim
            (λ f. absurd (omega (arith, pow-le-pow_right {n = 2} (lit< tt) {i = m} {j = k} f)))
            (λ f. omega arith)
            (le_or_lt m k);
      },
    ))
    (λ (l : suc n < 2 ^ k). (k, record { enough = l; least = λ m h. r.least m (omega arith) }))
    (le_or_lt (2 ^ k) (suc n))

-- ---- one round

module _ (f : ℕ → ℕ) (x : ℕ) where
  -- nothing is left
  pub halving_end : (left lo hi : ℕ) → hi ≤ lo → halving f x left lo hi ≡ lo
  unfolding halving
  halving_end zero lo hi l = refl
  halving_end (suc left) lo hi l = rw (le-ltb lo hi l)

  module _ (left lo hi : ℕ) (l : lo < hi) where
    halving-up : f (middle lo hi) < x → halving f x (suc left) lo hi ≡ halving f x left (middle lo hi + 1) hi
    unfolding halving
    halving-up h = rw (lt-ltb lo hi l, lt-ltb (f (middle lo hi)) x h)

    halving-down : x ≤ f (middle lo hi) → halving f x (suc left) lo hi ≡ halving f x left lo (middle lo hi)
    unfolding halving
    halving-down h = rw (lt-ltb lo hi l, le-ltb (f (middle lo hi)) x h)

-- the middle lies between the ends
module _ (lo hi : ℕ) (l : lo < hi) where
  middle-low : lo ≤ middle lo hi
  unfolding middle
  middle-low = omega arith

  pub middle-high : middle lo hi < hi
  unfolding middle
  middle-high = omega arith

  -- .. and either half needs one round less
  module _ (left : ℕ) (h : hi < lo + 2 ^ suc left) where
    half_up : hi < middle lo hi + 1 + 2 ^ left
    unfolding middle
    half_up = omega (arith, two_pow left)

    half_down : middle lo hi < lo + 2 ^ left
    unfolding middle
    half_down = omega (arith, two_pow left)

  -- while something is left, so is a round
  some_left : (left : ℕ) → hi < lo + 2 ^ left → 1 ≤ left
  some_left zero h = absurd (omega arith)
  some_left (suc k) h = omega arith

module _ (f : ℕ → ℕ) (x : ℕ) where
  -- .. and once nothing is left, rounds more change nothing
  more_rounds : (left more lo hi : ℕ) → hi < lo + 2 ^ left → halving f x (left + more) lo hi ≡ halving f x left lo hi
  more_rounds zero more lo hi h = halving_end f x (zero + more) lo hi (omega arith) ∙ sym (halving_end f x zero lo hi (omega arith))
  more_rounds (suc left) more lo hi h =
      let e : suc left + more ≡ suc (left + more) = omega arith in
      rw e
      (⊎_elim
      (λ l. halving_end f x (suc (left + more)) lo hi l ∙ sym (halving_end f x (suc left) lo hi l))
      (λ l. ⊎_elim
      (λ g. halving-down f x (left + more) lo hi l g ∙ more_rounds left more lo (middle lo hi) (half_down lo hi l left h)
      ∙ sym (halving-down f x left lo hi l g))
      (λ g. halving-up f x (left + more) lo hi l g ∙ more_rounds left more (middle lo hi + 1) hi (half_up lo hi l left h)
      ∙ sym (halving-up f x left lo hi l g))
      (le_or_lt x (f (middle lo hi))))
      (le_or_lt hi lo))

-- ---- what a loop cites: the rounds left and what they lead to

pub round_start : (f : ℕ → ℕ) (n x k m : ℕ) → m ≡ n → Rounds m k → Halfway f n x (halving f x k 0 n) k 0 m
round_start f n x k m e h = record { high = omega arith; room = omega (arith, h.enough); leads = ap (λ (i : ℕ). halving f x k 0 i) e }

module _ (f : ℕ → ℕ) (n x r : ℕ) where
  up : (left lo hi : ℕ) → Halfway f n x r (suc left) lo hi → lo < hi → f (middle lo hi) < x → Halfway f n x r left (middle lo hi + 1) hi
  up left lo hi s l g = record {
    high = s.high;
    room = half_up lo hi l left s.room;
    leads = sym (halving-up f x left lo hi l g) ∙ s.leads;
  }

  down : (left lo hi : ℕ) → Halfway f n x r (suc left) lo hi → lo < hi → x ≤ f (middle lo hi) → Halfway f n x r left lo (middle lo hi)
  down left lo hi s l g = record {
    high = omega (arith, s.high, middle-high lo hi l);
    room = half_down lo hi l left s.room;
    leads = sym (halving-down f x left lo hi l g) ∙ s.leads;
  }

  -- a round: one is left, and the number in the middle tells which half stays
  module _ (left lo hi : ℕ) (s : Halfway f n x r left lo hi) (l : lo < hi) where
    pub round_left : 1 ≤ left
    round_left = some_left lo hi l left s.room

    one_less : Halfway f n x r (suc (left - 1)) lo hi
    one_less = subst (λ (k : ℕ). Halfway f n x r k lo hi) (omega (arith, round_left)) s

    -- m is the middle, and w was read there
    module _ (m w : ℕ) (c : m ≡ lo + (hi - lo) / 2) (e : w ≡ f m) where
      at-middle : m ≡ middle lo hi
      unfolding middle
      at-middle = c

      read : w ≡ f (middle lo hi)
      read = e ∙ ap f at-middle

      pub round_up : w < x → Halfway f n x r (left - 1) (m + 1) hi
      round_up g = rw at-middle (up (left - 1) lo hi one_less l (omega (arith, read)))

      pub round_down : x ≤ w → Halfway f n x r (left - 1) lo m
      round_down g = rw at-middle (down (left - 1) lo hi one_less l (omega (arith, read)))

  pub round_end : (left lo hi : ℕ) → Halfway f n x r left lo hi → hi ≤ lo → lo ≡ r
  round_end left lo hi s l = sym (halving_end f x left lo hi l) ∙ s.leads

-- ---- all rounds

-- numbers before lo are below x, from hi on none is
record Between (f : ℕ → ℕ) (n x lo hi : ℕ) : Type 0 where
  pub low : lo ≤ hi
  pub high : hi ≤ n
  pub below : (m : ℕ) → m < lo → f m < x
  pub above : (m : ℕ) → hi ≤ m → m < n → x ≤ f m

module _ (f : ℕ → ℕ) (n x : ℕ) (up : Ascending f n) where
  between_up : (lo hi : ℕ) → Between f n x lo hi → (m : ℕ) → lo ≤ m → m < hi → f m < x → Between f n x (m + 1) hi
  between_up lo hi r m a c h = record {
    low = omega arith;
    high = r.high;
    below = λ i g. let z = up i m (omega arith) (omega (arith, r.high)) in omega arith;
    above = r.above;
  }

  between_down : (lo hi : ℕ) → Between f n x lo hi → (m : ℕ) → lo ≤ m → m < hi → x ≤ f m → Between f n x lo m
  between_down lo hi r m a c h = record {
    low = a;
    high = omega (arith, r.high);
    below = r.below;
    above = λ i g d. let z = up m i g d in omega arith;
  }

  between_end : (lo hi : ℕ) → Between f n x lo hi → hi ≤ lo → FirstNotBelow f n x lo
  between_end lo hi r l = record {
    upto = omega (arith, r.low, r.high);
    below = r.below;
    above = λ m a c. r.above m (omega (arith, r.low)) c;
  }

  -- with enough rounds left
  found : (left lo hi : ℕ) → Between f n x lo hi → hi < lo + 2 ^ left → FirstNotBelow f n x (halving f x left lo hi)
  found zero lo hi r h = rw (halving_end f x zero lo hi (omega arith)) (between_end lo hi r (omega arith))
  found (suc left) lo hi r h =
      ⊎_elim
      (λ l. rw (halving_end f x (suc left) lo hi l) (between_end lo hi r l))
      (λ l. ⊎_elim
      (λ g. rw (halving-down f x left lo hi l g)
      (found left lo (middle lo hi) (between_down lo hi r _ (middle-low lo hi l) (middle-high lo hi l) g) (half_down lo hi l left h)))
      (λ g. rw (halving-up f x left lo hi l g)
      (found left (middle lo hi + 1) hi (between_up lo hi r _ (middle-low lo hi l) (middle-high lo hi l) g) (half_up lo hi l left h)))
      (le_or_lt x (f (middle lo hi))))
      (le_or_lt hi lo)

  -- k rounds are enough for n numbers
  pub halving_laws : (k : ℕ) → Rounds n k → HalvingLaws f n x k
  halving_laws k e = record {
    first = found k 0 n (between_all) (omega (arith, e.enough));
    stopped = λ more. more_rounds f x k more 0 n (omega (arith, e.enough));
  }
    where
      between_all : Between f n x 0 n
      between_all = record {
        low = omega arith;
        high = omega arith;
        below = λ m l. absurd (omega arith);
        above = λ m a c. absurd (omega arith);
      }
