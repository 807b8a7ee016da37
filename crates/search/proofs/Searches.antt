-- Searches that go on side by side. Assumes nothing.
use Prim.Native.Nat.{ℕ, ◌+◌, ◌-◌, ◌/◌, ◌≤◌, ◌<◌}
use native.Mathlib.Omega.{arith}
use native.Mathlib.Decide.{ℕ_discrete}
use mathlib.Core.Path.{◌≡◌, ap, subst, sym, ◌∙◌}
use mathlib.Core.Logic.{◌⊎◌, inl, inr, ⊎_elim, by_cases}
use mathlib.Core.List.{List}
use mathlib.Core.Bool.{Bool, false, not, false≢true}
use Rattle.std.specs.Prelude.{Option, Some, None, IfSome, unwrap_or}
use Rattle.std.specs.Option.{is_some}
use borrow.Author.Count.{below_none, below_more}
use lib.ListN.{length, get_or, set, length-set}
use lib.Seq.{get_or-set_same, get_or-set_other}
use Rattle.laws.proofs.Order.{le_or_lt}
use Rattle.strings.proofs.Filling.{fill, fill_any}
use Rattle.laws.proofs.Halving.{some-rounds, rounds-of, round_start, round_up, round_down, round_end}
use Rattle.verdict.proofs.Laws.{Clean}
use Rattle.hash.specs.Hash.{bucket_of}
use Rattle.layout.specs.Table.{Table, entries, hash_of}
use Rattle.strings.specs.Order.{all_entry_checks}
use Rattle.search.specs.declared.Bounds.{Bounds}
use Rattle.search.specs.inner.LowerBound.{Near, halved, Searching, told, going_on}
use Rattle.search.specs.inner.Group.{LowerBounds, NearAt, AllNear, SearchingAt, AllSearching, ListedFrom, Looked}
use Rattle.search.proofs.Nearby.{near_place}

-- what holds of each element holds of each when one is set
set_one : {A : Type 0} (d : A) (P : ℕ → A → Type 0) (xs : List A) (j : ℕ) (x : A) → j < length xs → P j x → (i : ℕ) → ((i ≡ j → ⊥) → P i (get_or xs i d))
    → P i (get_or (set xs j x) i d)
set_one d P xs j x l h i f =
    by_cases (ℕ_discrete i j)
    (λ e. rw e (rw (get_or-set_same xs j x d l) h))
    (λ n. rw (get_or-set_other xs j i x d n) (f n))

-- ---- one search

module _ (t : Table) (k h : ℕ) where
  -- all entries are left
  pub searching-all : (n : ℕ) → n ≡ entries t k → Searching t k h (record { lo = 0; hi = n })
  searching-all n q =
      let (r, w) = some-rounds n in
      going_on r r (rounds-of n (entries t k) r q w) (round_start (hash_of t k) (entries t k) h r n q w)

  -- none is
  pub searching_end : (x : Bounds) → Searching t k h x → x.hi ≤ x.lo → Near t k h x.lo
  searching_end x (told a w) l = w
  searching_end x (going_on r left a w) l =
      halved (record { rounds = r; allowed = a; stops = round_end (hash_of t k) (entries t k) h _ left x.lo x.hi w l })

  -- some are: they are entries of the bucket
  -- one round: w was read in the middle, at m
  module _ (x : Bounds) (m w : ℕ) (l : x.lo < x.hi) (c : m ≡ x.lo + (x.hi - x.lo) / 2) (e : w ≡ hash_of t k m) where
    searching-up : w < h → Searching t k h x → Searching t k h (record { lo = m + 1; hi = x.hi })
    searching-up g (told a s) = absurd (omega arith)
    searching-up g (going_on r left a s) = going_on r (left - 1) a (round_up (hash_of t k) (entries t k) h _ left x.lo x.hi s l m w c e g)

    searching-down : h ≤ w → Searching t k h x → Searching t k h (record { lo = x.lo; hi = m })
    searching-down g (told a s) = absurd (omega arith)
    searching-down g (going_on r left a s) = going_on r (left - 1) a (round_down (hash_of t k) (entries t k) h _ left x.lo x.hi s l m w c e g)

-- in a bucket by another name
pub searching_in : (t : Table) (k m h : ℕ) (x : Bounds) → k ≡ m → Searching t k h x → Searching t m h x
searching_in t k m h x e s = subst (λ (i : ℕ). Searching t i h x) e s

module _ (t : Table) (k i h : ℕ) (x : Bounds) (q : k ≡ i) (s : Searching t i h x) (l : x.lo < x.hi) (m w : ℕ) (c : m ≡ x.lo + (x.hi - x.lo) / 2) (e : w ≡ hash_of t k m) where
  pub halve_up : w < h → Searching t i h (record { lo = m + 1; hi = x.hi }) × (x.lo < x.hi → x.hi - (m + 1) < x.hi - x.lo)
  halve_up g = (
    searching_in t k i h _ q (searching-up t k h x m w l c e g (searching_in t i k h x (sym q) s)),
    λ _. omega arith,
  )

  pub halve_down : h ≤ w → Searching t i h (record { lo = x.lo; hi = m }) × (x.lo < x.hi → m - x.lo < x.hi - x.lo)
  halve_down g = (
    searching_in t k i h _ q (searching-down t k h x m w l c e g (searching_in t i k h x (sym q) s)),
    λ _. omega arith,
  )

-- ---- the searches of many hashes

-- by the hash that is read
pub searching-of : (t : Table) (h g : ℕ) (x : Bounds) → h ≡ g → Searching t (bucket_of t.buckets g) g x → Searching t (bucket_of t.buckets h) h x
searching-of t h g x e s = rw e s

module _ (t : Table) (hashes : List ℕ) (left : List Bounds) (n : ℕ) (a : AllSearching t hashes n left) where
  pub searches_upto : (m : ℕ) → m ≤ n → AllSearching t hashes m left
  searches_upto m l = record { long = a.long; each = λ i h. a.each i (omega arith) }

  -- one of them goes on
  pub searches_on : (j : ℕ) → j < 64 → (h : ℕ) (x : Bounds) → h ≡ get_or hashes j 0 → Searching t (bucket_of t.buckets h) h x → AllSearching t hashes n (set left j x)
  searches_on j l h x e s = record {
    long = length-set left j x ∙ a.long;
    each =
        λ i b.
        set_one _ (SearchingAt t hashes) left j x (omega (arith, a.long)) (rw (sym e) s) i (λ d. a.each i b);
  }

-- one more
pub searches_more : (t : Table) (hashes : List ℕ) (left : List Bounds) (j : ℕ) → AllSearching t hashes j left → j < 64 → (h : ℕ) (x : Bounds) → h ≡ get_or hashes j 0
    → Searching t (bucket_of t.buckets h) h x → AllSearching t hashes (j + 1) (set left j x)
searches_more t hashes left j a l h x e s = record {
  long = length-set left j x ∙ a.long;
  each = fill_any _ (SearchingAt t hashes) left j x (omega (arith, a.long)) a.each (rw (sym e) s);
}

-- ---- those that are not found where they were looked for

-- what holds of an answer, if there is one
pub held : (P : ℕ → Type 0) (o : Option ℕ) (x : ℕ) {n : Bool} → IfSome o P → x ≡ unwrap_or o 0 → is_some o ≡ not n → n ≡ false → P x
held P (Some y) x p e f g = rw e p
held P None x {n} p e f g = absurd (false≢true (rw g at f))

-- by the hash that is read
pub near_of : (t : Table) (h g r : ℕ) → h ≡ g → Near t (bucket_of t.buckets h) h r → Near t (bucket_of t.buckets g) g r
near_of t h g r e w = rw (sym e) w

pub near_none : (t : Table) (hashes low : List ℕ) → length low ≡ 64 → AllNear t hashes 0 low
near_none t hashes low e = record { long = e; each = below_none _ }

-- one more is found
pub near_more : (t : Table) (hashes low : List ℕ) (j : ℕ) → AllNear t hashes j low → j < 64 → (h r : ℕ) → h ≡ get_or hashes j 0
    → Near t (bucket_of t.buckets h) h r → AllNear t hashes (j + 1) (set low j r)
near_more t hashes low j a l h r e w = record {
  long = length-set low j r ∙ a.long;
  each = fill (NearAt t hashes) low j r (omega (arith, a.long)) a.each (near_of t h (get_or hashes j 0) r e w);
}

pub near_upto : (t : Table) (hashes low : List ℕ) (m : ℕ) → AllNear t hashes m low → (n : ℕ) → n ≤ m → AllNear t hashes n low
near_upto t hashes low m a n l = record { long = a.long; each = λ i h. a.each i (omega arith) }

-- each of them is found
pub near_all : (t : Table) (hashes low : List ℕ) → Clean (all_entry_checks t) → 0 < t.buckets → (n : ℕ) → AllNear t hashes n low → LowerBounds t hashes n low
near_all t hashes low ok b n a = record { long = a.long; each = λ j l. near_place t (get_or hashes j 0) (get_or low j 0) b ok (a.each j l) }

module _ (t : Table) (hashes low which : List ℕ) (n m i : ℕ) (w : Looked t hashes n low which m i) where
  -- the list is empty
  pub looked_end : m ≤ i → AllNear t hashes n low
  looked_end l = record { long = w.lows; each = λ j h. ⊎_elim (λ z. z) (λ z. absurd (omega (arith, z.1, z.2))) (w.each j h) }

  -- the first of the list is found
  module _ (j r : ℕ) (l : i < m) (e : j ≡ get_or which i 0) (a : j < 64) (f : NearAt t hashes j r) where
    other : (x : ℕ) → x < n → (x ≡ j → ⊥) → NearAt t hashes x (get_or low x 0) ⊎ ListedFrom which m (i + 1) x
    other x h d =
        ⊎_elim
        (λ z. inl z)
        (λ z. ⊎_elim
        (λ y. inr (z.0, y, z.2, z.3))
        (λ (y : z.0 < i + 1).
        let k : get_or which z.0 0 ≡ get_or which i 0 = ap (λ (u : ℕ). get_or which u 0) (omega (arith, z.1)) in
        absurd (d (sym z.3 ∙ k ∙ sym e)))
        (le_or_lt (i + 1) z.0))
        (w.each x h)

    pub looked_found : Looked t hashes n (set low j r) which m (i + 1)
    looked_found = record {
      lows = length-set low j r ∙ w.lows;
      listed = w.listed;
      fewer = w.fewer;
      each = λ x h.
          set_one 0 (λ x y. NearAt t hashes x y ⊎ ListedFrom which m (i + 1) x) low j r (omega (arith, w.lows)) (inl f) x (other x h);
    }

  -- the same by another name of n
  pub looked_upto : (k : ℕ) → k ≤ n → n ≤ k → Looked t hashes k low which m i
  looked_upto k a b = subst (λ (x : ℕ). Looked t hashes x low which m i) (omega arith) w

-- one more was looked for: it is found, or the last of the list
module _ (t : Table) (hashes low which : List ℕ) (j m : ℕ) (w : Looked t hashes j low which m 0) (a : j < 64) (r k : ℕ) (b : m ≤ k) (c : k ≤ m + 1)
    (f : NearAt t hashes j r ⊎ (m < k)) where
  small : m < 64
  small = omega (arith, w.fewer)

  earlier : (x : ℕ) → x < j → NearAt t hashes x (get_or (set low j r) x 0) ⊎ ListedFrom (set which m j) k 0 x
  earlier x h =
      ⊎_elim
      (λ z. inl (rw (get_or-set_other low j x r 0 (omega arith)) z))
      (λ z. inr (z.0, omega arith, omega (arith, z.2), rw (get_or-set_other which m z.0 j 0 (omega (arith, z.2))) z.3))
      (w.each x h)

  this_one : NearAt t hashes j (get_or (set low j r) j 0) ⊎ ListedFrom (set which m j) k 0 j
  this_one =
      ⊎_elim
      (λ z. inl (rw (get_or-set_same low j r 0 (omega (arith, w.lows))) z))
      (λ z. inr (m, omega arith, z, get_or-set_same which m j 0 (omega (arith, small, w.listed.long))))
      f

  pub looked_more : Looked t hashes (j + 1) (set low j r) (set which m j) k 0
  looked_more = record {
    lows = length-set low j r ∙ w.lows;
    listed = record {
      long = length-set which m j ∙ w.listed.long;
      few = omega (arith, small);
      each = λ i h.
          fill (λ (i x : ℕ). x < j + 1) which m j (omega (arith, small, w.listed.long)) (λ i h. omega (arith, w.listed.each i h)) (omega arith) i
          (omega arith);
    };
    fewer = omega (arith, w.fewer);
    each = below_more _ j earlier this_one;
  }

module _ (t : Table) (hashes low which : List ℕ) (j m : ℕ) (w : Looked t hashes j low which m 0) (a : j < 64) (r : ℕ) where
  pub looked_told : (h k : ℕ) → h ≡ get_or hashes j 0 → k ≡ bucket_of t.buckets h → Near t k h r → Looked t hashes (j + 1) (set low j r) (set which m j) m 0
  looked_told h k e q f =
      let g : Near t (bucket_of t.buckets h) h r = rw (sym q) f in
      looked_more t hashes low which j m w a r m (omega arith) (omega arith) (inl (rw (sym e) g))

  pub looked_not : Looked t hashes (j + 1) (set low j r) (set which m j) (m + 1) 0
  looked_not = looked_more t hashes low which j m w a r (m + 1) (omega arith) (omega arith) (inr (omega arith))
