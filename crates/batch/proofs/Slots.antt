-- How the slots of a group are filled, one by one. Assumes nothing.
use Prim.Native.Nat.{ℕ, zero, suc, ◌+◌, ◌-◌, ◌*◌, ◌/◌, ◌%◌, ◌^◌, ◌≤◌, ◌<◌}
use native.Mathlib.Nat.{mod-lt}
use native.Mathlib.Numerals.{add-one}
use native.Mathlib.Omega.{arith}
use mathlib.Core.Path.{◌≡◌, refl, ap, sym, ◌∙◌}
use mathlib.Core.Logic.{by_cases}
use mathlib.Core.List.{List}
use native.Mathlib.Decide.{ℕ_discrete}
use Rattle.std.specs.Prelude.{Option, None, IfSome}
use borrow.Author.Count.{below_none, below_more}
use lib.ListN.{length, get_or, set, length-set}
use lib.Seq.{get_or-set_same, get_or-set_other}
use Rattle.hash.specs.Hash.{bucket_of}
use Rattle.hash.proofs.Laws.{hash_lt}
use Rattle.text.specs.Text.{text_in}
use Rattle.text.specs.inner.Measure.{Measured}
use Rattle.text.specs.declared.Extent.{Extent}
use Rattle.layout.specs.Table.{Table}
use Rattle.search.specs.inner.LowerBound.{LowerBound}
use Rattle.search.specs.inner.Group.{LowerBounds}
use Rattle.strings.specs.inner.Held.{Held, held_table}
use Rattle.strings.specs.declared.Strings.{Strings}
use Rattle.strings.proofs.Places.{few-entries}
use Rattle.strings.proofs.Filling.{fill_both}
use Rattle.lookup.specs.inner.PickedEntry.{PickedEntry}
use Rattle.lookup.specs.declared.Kind.{Kind}
use Rattle.lookup.specs.declared.first.Candidate.{Candidate}
use Rattle.batch.specs.inner.Groups.{TextRead, stands_at, Group, PackedBounds, Texts, Picked, SameLow}

-- ---- where the texts of a group stand

pub stands_first : (at : ℕ) (lengths : List ℕ) → stands_at at lengths 0 ≡ at
unfolding stands_at
stands_first at lengths = refl

pub stands_next : (at : ℕ) (lengths : List ℕ) (j : ℕ) → stands_at at lengths (j + 1) ≡ stands_at at lengths j + (2 * get_or lengths j 0 + 2)
unfolding stands_at
stands_next at lengths j = ap (stands_at at lengths) (add-one j)

pub stands_on : (at : ℕ) (lengths : List ℕ) (j : ℕ) → at + j ≤ stands_at at lengths j
unfolding stands_at
stands_on at lengths zero = omega arith
stands_on at lengths (suc j) = omega (arith, stands_on at lengths j)

pub stands_even : (at : ℕ) (lengths : List ℕ) (j : ℕ) → at % 2 ≡ 0 → stands_at at lengths j % 2 ≡ 0
unfolding stands_at
stands_even at lengths zero e = e
stands_even at lengths (suc j) e = omega (arith, stands_even at lengths j e)

-- a later length changes nothing
stands_kept : (at : ℕ) (lengths : List ℕ) (n x j : ℕ) → j ≤ n → stands_at at (set lengths n x) j ≡ stands_at at lengths j
unfolding stands_at
stands_kept at lengths n x zero l = refl
stands_kept at lengths n x (suc j) l =
    let e = stands_kept at lengths n x j (omega arith) in
    let g = get_or-set_other lengths n j x 0 (omega arith) in
    cc

pub stands_more : (at : ℕ) (lengths : List ℕ) (n k p : ℕ) → n < length lengths → p ≡ stands_at at lengths n → p + (2 * k + 2) ≡ stands_at at (set lengths n k) (n + 1)
stands_more at lengths n k p l e =
    omega (arith, e, stands_next at (set lengths n k) n, stands_kept at lengths n k n (omega arith), get_or-set_same lengths n k 0 l)

-- one text at least, where the texts end behind them
pub some_taken : (at : ℕ) (lengths : List ℕ) (n p m : ℕ) → p ≡ stands_at at lengths n → at < m → m ≤ p → 1 ≤ n
unfolding stands_at
some_taken at lengths zero p m e a l = absurd (omega arith)
some_taken at lengths (suc n) p m e a l = omega arith

-- ---- measured texts

pub read_of : {texts : List ℕ} {at : ℕ} {x : Extent} → Measured texts at ((length texts - at) / 2) x → TextRead texts at x.length x.hash
read_of m = record { long = m.long; hashed = m.hashed }

pub read_small : {texts : List ℕ} {at k h : ℕ} → TextRead texts at k h → h < 2 ^ 32
read_small {texts} {at} r = omega (arith, r.hashed, hash_lt 0 (text_in texts at ((length texts - at) / 2)) (omega arith))

pub group_none : (texts : List ℕ) (at : ℕ) (lengths hashes : List ℕ) → length lengths ≡ 64 → length hashes ≡ 64 → Group texts at 0 lengths hashes
group_none texts at lengths hashes e f = record {
  few = omega arith;
  lengths_long = e;
  hashes_long = f;
  within = below_none _;
  read = below_none _;
}

module _ {texts : List ℕ} {at n : ℕ} {lengths hashes : List ℕ} (g : Group texts at n lengths hashes) where
  pub group_more : {p k h : ℕ} → p ≡ stands_at at lengths n → p < length texts → n < 64 → TextRead texts p k h
      → Group texts at (n + 1) (set lengths n k) (set hashes n h)
  group_more {p} {k} {h} e l m r =
      let here = stands_kept at lengths n k n (omega arith) in
      record {
        few = omega arith;
        lengths_long = length-set lengths n k ∙ g.lengths_long;
        hashes_long = length-set hashes n h ∙ g.hashes_long;
        within =
            below_more (λ (j : ℕ). stands_at at (set lengths n k) j < length texts) n
            (λ j c. rw (stands_kept at lengths n k j (omega arith)) (g.within j c))
            (rw here (omega arith));
        read =
            fill_both (λ (j y z : ℕ). TextRead texts (stands_at at (set lengths n k) j) y z) lengths hashes n k h
            (omega (arith, g.lengths_long)) (omega (arith, g.hashes_long))
            (λ j c. rw (stands_kept at lengths n k j (omega arith)) (g.read j c))
            (rw (here, sym e) r);
      }

-- ---- places of hashes

module _ (b : List ℕ) (s : Strings) (segments buckets : List ℕ) (h : Held b s segments buckets) where
  -- a place has 32 bits
  pub place-small : (y x : ℕ) → LowerBound (held_table b s buckets) (bucket_of (length buckets) y) y x → x ≤ 1073741824
  unfolding bucket_of
  place-small y x w = omega (arith, w.upto, few-entries b s segments buckets h (bucket_of (length buckets) y) (mod-lt _ h.some-bucket))

  pub near_first : (hashes low : List ℕ) (n : ℕ) → LowerBounds (held_table b s buckets) hashes n low → PackedBounds (held_table b s buckets) hashes n low
  near_first hashes low n a = record {
    long = a.long;
    each = λ j l.
        let w = a.each j l in
        let z : get_or low j 0 % 4294967296 ≡ get_or low j 0 = omega (arith, place-small _ _ w) in
        rw z w;
  }

-- something above them changes nothing
pub near_same : {t : Table} {hashes low d : List ℕ} {n : ℕ} → PackedBounds t hashes n low → SameLow low d → PackedBounds t hashes n d
near_same a s = record { long = s.long ∙ a.long; each = λ j l. rw (s.each j) (a.each j l) }

pub same_start : (low : List ℕ) → SameLow low low
same_start low = record { long = refl; each = λ j. refl }

-- ---- entries picked

-- one slot more
fill_next : {A : Type 0} (P : ℕ → A → Type 0) (xs : List A) (j : ℕ) (x d : A) → j < length xs → ((i : ℕ) → i < j → P i (get_or xs i d)) → P j x
    → (i : ℕ) → i < j + 1 → P i (get_or (set xs j x) i d)
fill_next P xs j x d l f h i k =
    by_cases (ℕ_discrete i j)
    (λ e. rw (e, get_or-set_same xs j x d l) h)
    (λ g. rw (get_or-set_other xs j i x d g) (f i (omega arith)))

pub texts_none : (b : List ℕ) (picked : List (Option Candidate)) → length picked ≡ 64 → Texts b 0 picked
texts_none b picked e = record { long = e; each = below_none _ }

pub texts_more : {b : List ℕ} {picked : List (Option Candidate)} {n : ℕ} → Texts b n picked → (x : Option Candidate) → n < 64
    → IfSome x (λ c. (c.text + 2 ≤ length b) × (c.end + 2 ≤ length b)) → Texts b (n + 1) (set picked n x)
texts_more {b} {picked} {n} w x l f = record {
  long = length-set picked n x ∙ w.long;
  each = fill_next (λ (i : ℕ) (y : Option Candidate). IfSome y (λ c. (c.text + 2 ≤ length b) × (c.end + 2 ≤ length b))) picked n x None (omega (arith, w.long)) w.each f;
}

module _ {kind : Kind} {t : Table} {lengths : List ℕ} where
  pub picked_none : (picked : List (Option Candidate)) → length picked ≡ 64 → Picked kind t lengths 0 picked
  picked_none picked e = record { long = e; each = below_none _ }

  module _ {picked : List (Option Candidate)} {n : ℕ} (w : Picked kind t lengths n picked) where
    pub picked_more : (x : Option Candidate) → n < 64 → {k : ℕ} → k ≡ get_or lengths n 0 → IfSome x (PickedEntry kind t k) → Picked kind t lengths (n + 1) (set picked n x)
    picked_more x l e f = record {
      long = length-set picked n x ∙ w.long;
      each = fill_next (λ (i : ℕ) (y : Option Candidate). IfSome y (PickedEntry kind t (get_or lengths i 0))) picked n x None (omega (arith, w.long)) w.each (rw (sym e) f);
    }

-- what is read of one slot
pub near_read : {t : Table} {hashes low : List ℕ} {n : ℕ} → PackedBounds t hashes n low → (j : ℕ) → j < n → {h r : ℕ} → h ≡ get_or hashes j 0 → r ≡ get_or low j 0
    → LowerBound t (bucket_of t.buckets h) h (r % 4294967296)
near_read a j l e f = rw (e, f) (a.each j l)
