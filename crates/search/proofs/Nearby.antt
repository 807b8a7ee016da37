-- The search of a bucket from an estimate. Assumes nothing.
use Prim.Native.Nat.{ℕ, zero, suc, ◌+◌, ◌-◌, ◌≤◌, ◌<◌, min}
use native.Mathlib.Nat.{mod-lt}
use native.Mathlib.Numerals.{add-one}
use native.Mathlib.Omega.{arith}
use mathlib.Core.Path.{◌≡◌, refl, ap, subst, sym, ◌∙◌}
use mathlib.Core.Logic.{⊎_elim}
use mathlib.Core.List.{List}
use mathlib.Core.Bool.{Bool, true, false}
use Rattle.std.specs.Prelude.{IfSome}
use Rattle.std.specs.Bool.{then_some}
use borrow.Author.Tests.{lt-ltb, le-ltb}
use Rattle.laws.specs.Halving.{Ascending, FirstNotBelow}
use Rattle.laws.proofs.Order.{le_or_lt}
use Rattle.verdict.specs.inner.Tells.{Tells}
use Rattle.verdict.proofs.Laws.{Clean}
use Rattle.hash.specs.Hash.{hash_text, bucket_of}
use Rattle.layout.specs.Table.{Table, entries, hash_of}
use Rattle.strings.specs.Texts.{text_of}
use Rattle.strings.specs.Order.{all_entry_checks}
use Rattle.strings.proofs.Only.{hash-of}
use Rattle.search.specs.inner.LowerBound.{LowerBound, Near, few, eight, halved, count_below, or_last, count_few, Settled}
use Rattle.search.proofs.Halves.{bucket-ascends, halved_lower}

-- in a bucket by another name
pub lower_in : (t : Table) (k m h r : ℕ) → k ≡ m → LowerBound t k h r → LowerBound t m h r
lower_in t k m h r e w = subst (λ (x : ℕ). LowerBound t x h r) e w

-- ---- numbers counted in a row

module _ (f : ℕ → ℕ) (x w : ℕ) where
  count_none : count_below f x w 0 ≡ 0
  unfolding count_below
  count_none = refl

  count-one : (m : ℕ) → f (w + m) < x → count_below f x w m + 1 ≡ count_below f x w (m + 1)
  unfolding count_below
  count-one m l = rw (add-one m, lt-ltb (f (w + m)) x l)

  count_other : (m : ℕ) → x ≤ f (w + m) → count_below f x w m ≡ count_below f x w (m + 1)
  unfolding count_below
  count_other m l = rw (add-one m, le-ltb (f (w + m)) x l)

  count-most : (m : ℕ) → count_below f x w m ≤ m
  count-most zero = omega (arith, count_none)
  count-most (suc m) =
      rw (← add-one m)
      (⊎_elim
      (λ g. omega (arith, count_other m g, count-most m))
      (λ g. omega (arith, count-one m g, count-most m))
      (le_or_lt x (f (w + m))))

-- the same numbers in another row
count-same : (f g : ℕ → ℕ) (x v w m : ℕ) → ((i : ℕ) → i < m → f (v + i) ≡ g (w + i)) → count_below f x v m ≡ count_below g x w m
unfolding count_below
count-same f g x v w zero e = refl
count-same f g x v w (suc m) e = rw (e m (omega arith), count-same f g x v w m (λ i l. e i (omega arith)))

-- what a loop knows: i were read, c of them are below
pub record Counting (f : ℕ → ℕ) (x i c : ℕ) : Type 0 where
  pub most : c ≤ i
  pub counts : c ≡ count_below f x 0 i

pub counting_start : (f : ℕ → ℕ) (x : ℕ) → Counting f x 0 0
counting_start f x = record { most = omega arith; counts = sym (count_none f x 0) }

module _ (f : ℕ → ℕ) (x i c : ℕ) (r : Counting f x i c) where
  -- y was read
  module _ (y : ℕ) (e : y ≡ f (0 + i)) where
    pub counting_one : y < x → Counting f x (i + 1) (c + 1)
    counting_one g = record {
      most = omega (arith, r.most);
      counts = ap (λ (n : ℕ). n + 1) r.counts ∙ count-one f x 0 i (omega (arith, e));
    }

    pub counting_other : x ≤ y → Counting f x (i + 1) c
    counting_other g = record {
      most = omega (arith, r.most);
      counts = r.counts ∙ count_other f x 0 i (omega (arith, e));
    }

  pub counting_end : (m : ℕ) → i ≡ m → c ≡ count_below f x 0 m
  counting_end m e = r.counts ∙ ap (count_below f x 0) e

-- of the m numbers from place w on the first r are below x, and the others are not
record Counted (f : ℕ → ℕ) (x w m r : ℕ) : Type 0 where
  pub upto : r ≤ m
  pub below : (i : ℕ) → w ≤ i → i < w + r → f i < x
  pub above : (i : ℕ) → w + r ≤ i → i < w + m → x ≤ f i

module _ (f : ℕ → ℕ) (n x w : ℕ) (up : Ascending f n) where
  module _ (m r : ℕ) (c : Counted f x w m r) where
    counted_other : x ≤ f (w + m) → Counted f x w (m + 1) r
    counted_other g = record {
      upto = omega (arith, c.upto);
      below = c.below;
      above = λ i a b. ⊎_elim (λ (z : w + m ≤ i). let y : i ≡ w + m = omega arith in rw y g) (λ z. c.above i a z) (le_or_lt (w + m) i);
    }

    counted_one : w + m < n → f (w + m) < x → Counted f x w (m + 1) (r + 1)
    counted_one l g = record {
      upto = omega (arith, c.upto);
      below = λ i a b. omega (arith, up i (w + m) (omega (arith, c.upto)) l);
      above = λ i a b. absurd (omega (arith, c.above (w + r) (omega arith) (omega arith), up (w + r) (w + m) (omega arith) l));
    }

  counted : (m : ℕ) → w + m ≤ n → Counted f x w m (count_below f x w m)
  counted zero l =
      rw (count_none f x w)
      (record { upto = omega arith; below = λ i a b. absurd (omega arith); above = λ i a b. absurd (omega arith) })
  counted (suc m) l =
      rw (← add-one m)
      (⊎_elim
      (λ g. rw (← count_other f x w m g) (counted_other m _ (counted m (omega arith)) g))
      (λ g. rw (← count-one f x w m g) (counted_one m _ (counted m (omega arith)) (omega arith) g))
      (le_or_lt x (f (w + m))))

-- ---- what a count settles

module _ (f : ℕ → ℕ) (n x : ℕ) (up : Ascending f n) where
  -- eight of many
  settled_first : (w r : ℕ) → w + 8 ≤ n → Counted f x w 8 r → Settled w r n → FirstNotBelow f n x (w + r)
  settled_first w r l c s = record {
    upto = omega (arith, c.upto);
    below = λ m a. ⊎_elim (λ z. c.below m z a) (before m a) (le_or_lt w m);
    above = λ m a d. ⊎_elim (behind m a d) (λ z. c.above m a z) (le_or_lt (w + 8) m);
  }
    where
      before : (m : ℕ) → m < w + r → m < w → f m < x
      before m a z =
          let g : 0 < r = ⊎_elim (λ y. absurd (omega (arith, s.first (omega arith)))) (λ y. y) (le_or_lt r 0) in
          omega (arith, c.below w (omega arith) (omega arith), up m w (omega arith) (omega arith))

      behind : (m : ℕ) → w + r ≤ m → m < n → w + 8 ≤ m → x ≤ f m
      behind m a d z =
          let g : r < 8 = ⊎_elim (λ y. absurd (omega (arith, s.last (omega (arith, c.upto))))) (λ y. y) (le_or_lt 8 r) in
          omega (arith, c.above (w + 7) (omega arith) (omega arith), up (w + 7) m (omega arith) d)

-- ---- all of few, the last one as often as it takes

module _ (n : ℕ) where
  or_last_low : (i : ℕ) → i < n → i ≡ or_last i n
  unfolding or_last
  or_last_low i l = rw (lt-ltb i n l)

  or_last_high : (i : ℕ) → n ≤ i → n - 1 ≡ or_last i n
  unfolding or_last
  or_last_high i l = rw (le-ltb i n l)

  or_last_min : (i : ℕ) → 1 ≤ n → min (n - 1) i ≡ or_last i n
  or_last_min i a = ⊎_elim (λ l. omega (arith, or_last_high i l)) (λ l. omega (arith, or_last_low i l)) (le_or_lt n i)

  or_last_in : (i : ℕ) → 1 ≤ n → or_last i n < n
  or_last_in i a = omega (arith, or_last_min i a)

  or_last_order : (i j : ℕ) → i ≤ j → or_last i n ≤ or_last j n
  or_last_order i j l =
      ⊎_elim
      (λ p. ⊎_elim
      (λ q. omega (arith, or_last_high i q, or_last_high j p))
      (λ q. omega (arith, or_last_low i q, or_last_high j p))
      (le_or_lt n i))
      (λ p. omega (arith, or_last_low i (omega arith), or_last_low j p))
      (le_or_lt n j)

module _ (f : ℕ → ℕ) (n x : ℕ) where
  -- what eight reads come to: c of them are below
  module _ (c : ℕ) (e : c ≡ count_below (λ i. f (or_last i n)) x 0 8) where
    few_less : c < n → c ≡ count_few f x n
    unfolding count_few
    few_less l = rw (lt-ltb (count_below (λ i. f (or_last i n)) x 0 8) n (omega arith)) e

    few-all : n ≤ c → n ≡ count_few f x n
    unfolding count_few
    few-all l = rw (le-ltb (count_below (λ i. f (or_last i n)) x 0 8) n (omega arith))

    pub few-min : min c n ≡ count_few f x n
    few-min = ⊎_elim (λ l. omega (arith, few-all l)) (λ l. omega (arith, few_less l)) (le_or_lt n c)

-- few of other numbers
few-same : (f g : ℕ → ℕ) (x n : ℕ) → ((i : ℕ) → f i ≡ g i) → count_few f x n ≡ count_few g x n
few-same f g x n e =
    let s = count-same (λ i. f (or_last i n)) (λ i. g (or_last i n)) x 0 0 8 (λ i l. e (or_last (0 + i) n)) in
    sym (few-min f n x _ refl) ∙ ap (λ (c : ℕ). min c n) s ∙ few-min g n x _ refl

-- of eight all are read, each once
few-eight : (f : ℕ → ℕ) (x w : ℕ) → count_few (λ i. f (w + i)) x 8 ≡ count_below f x w 8
few-eight f x w =
    let s : count_below (λ i. f (w + or_last i 8)) x 0 8 ≡ count_below f x w 8 =
    count-same (λ i. f (w + or_last i 8)) f x 0 w 8 (λ i l. ap f (omega (arith, or_last_low 8 (0 + i) (omega arith)))) in
    omega (arith, s, few-min (λ i. f (w + i)) 8 x _ refl, count-most f x w 8)

module _ (f : ℕ → ℕ) (n x : ℕ) (up : Ascending f n) where
  capped_up : 1 ≤ n → Ascending (λ i. f (or_last i n)) 8
  capped_up a i j l _ = up (or_last i n) (or_last j n) (or_last_order n i j l) (or_last_in n j a)

  module _ (l : n ≤ 8) (c : ℕ) (k : Counted (λ i. f (or_last i n)) x 0 8 c) where
    few-some : c < n → FirstNotBelow f n x c
    few-some a = record {
      upto = omega arith;
      below = λ m d. subst (λ (i : ℕ). f i < x) (sym (or_last_low n m (omega arith))) (k.below m (omega arith) (omega arith));
      above = λ m d e. subst (λ (i : ℕ). x ≤ f i) (sym (or_last_low n m e)) (k.above m (omega arith) (omega arith));
    }

    few_every : n ≤ c → FirstNotBelow f n x n
    few_every a = record {
      upto = omega arith;
      below = λ m d. subst (λ (i : ℕ). f i < x) (sym (or_last_low n m d)) (k.below m (omega arith) (omega arith));
      above = λ m d e. absurd (omega arith);
    }

  few_counted : n ≤ 8 → 1 ≤ n → FirstNotBelow f n x (count_few f x n)
  few_counted l a =
      let k = counted (λ i. f (or_last i n)) 8 x 0 (capped_up a) 8 (omega arith) in
      ⊎_elim
      (λ g. rw (← few-all f n x _ refl g) (few_every l _ k g))
      (λ g. rw (← few_less f n x _ refl g) (few-some l _ k g))
      (le_or_lt n (count_below (λ i. f (or_last i n)) x 0 8))

  few-none : n ≤ 0 → FirstNotBelow f n x (count_few f x n)
  few-none a =
      rw (← few-all f n x _ refl (omega arith))
      (record { upto = omega arith; below = λ m d. absurd (omega arith); above = λ m d e. absurd (omega arith) })

  few-first : n ≤ 8 → FirstNotBelow f n x (count_few f x n)
  few-first l = ⊎_elim few-none (few_counted l) (le_or_lt n 0)

-- ---- in a bucket

-- the hash that is read at place i from w on, or at the last one
pub few-read : (t : Table) (k w n i j y : ℕ) → 1 ≤ n → j ≡ min (n - 1) i → y ≡ hash_of t k (w + j) → y ≡ hash_of t k (w + or_last (0 + i) n)
few-read t k w n i j y p q e = e ∙ ap (λ (m : ℕ). hash_of t k (w + m)) (omega (arith, or_last_min n (0 + i) p))

-- the ways to find it
module _ (t : Table) (k h n : ℕ) (q : n ≡ entries t k) where
  pub near_none : n ≡ 0 → Near t k h 0
  near_none e = few (omega arith) (let z = few-all (hash_of t k) n h _ refl (omega arith) in sym e ∙ z ∙ ap (count_few (hash_of t k) h) q)

  pub near_few : (r : ℕ) → n < 8 → r ≡ count_few (λ i. hash_of t k (0 + i)) h n → Near t k h r
  near_few r l e =
      few (omega arith)
      (e ∙ few-same (λ i. hash_of t k (0 + i)) (hash_of t k) h n (λ i. ap (hash_of t k) (omega arith)) ∙ ap (count_few (hash_of t k) h) q)

  pub near_eight : (w c : ℕ) → w + 8 ≤ n → c ≡ count_few (λ i. hash_of t k (w + i)) h 8 → Settled w c n → Near t k h (w + c)
  near_eight w c l e s =
      let g = e ∙ few-eight (hash_of t k) h w in
      eight w (omega arith) (rw (← g, ← q) s) (ap (λ (x : ℕ). w + x) g)

-- where it stands, if that is told
pub near_told : (P : Type 0) (t : Table) (k h r : ℕ) {b : Bool} → Tells P b → (P → Near t k h r) → IfSome (then_some b r) (Near t k h)
near_told P t k h r {b = true} s f = f (s.so refl)
near_told P t k h r {b = false} s f = tt

-- what is found is the first entry whose hash is not below h
pub near_lower : (t : Table) (k h r : ℕ) → Clean (all_entry_checks t) → k < t.buckets → Near t k h r → LowerBound t k h r
near_lower t k h r ok b (few l e) = rw e (few-first (hash_of t k) (entries t k) h (bucket-ascends t ok k b) l)
near_lower t k h r ok b (eight w l s e) =
    let up = bucket-ascends t ok k b in
    rw e (settled_first (hash_of t k) (entries t k) h up w _ l (counted (hash_of t k) (entries t k) h w up 8 l) s)
near_lower t k h r ok b (halved w) = halved_lower t k h r ok b w

-- in the bucket of the hash
pub near_place : (t : Table) (h r : ℕ) → 0 < t.buckets → Clean (all_entry_checks t) → Near t (bucket_of t.buckets h) h r
    → LowerBound t (bucket_of t.buckets h) h r
unfolding bucket_of
near_place t h r b ok w = near_lower t (bucket_of t.buckets h) h r ok (mod-lt _ b) w

-- no entry bears a text before the first whose hash is not below the text's
pub none_before : (t : Table) → Clean (all_entry_checks t) → (k r m : ℕ) (q : List ℕ) → k < t.buckets → LowerBound t k (hash_text q) r → m < entries t k → m < r
    → text_of t k m ≡ q → ⊥
none_before t ok k r m q h w l a e = omega (arith, w.below m a, hash-of t ok k m q h l e)
