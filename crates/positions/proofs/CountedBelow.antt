-- The first list position that no entry carries, by counting: no two entries carry one index, so as many entries carry an index below m as
-- positions below m are carried. Assumes nothing.
use Prim.Native.Nat.{ℕ, zero, suc, ◌+◌, ◌-◌, ◌≤◌, ◌<◌}
use native.Mathlib.Decide.{dec_le, ℕ_discrete}
use native.Mathlib.Omega.{arith}
use mathlib.Core.Path.{◌≡◌, refl, sym, subst, ◌∙◌}
use mathlib.Core.Logic.{inl, inr, ⊎_elim}
use Rattle.laws.specs.Counting.{how_many, sum_below}
use Rattle.laws.proofs.Order.{le_or_lt}
use Rattle.laws.proofs.Counting.{count_none, count-met, count_missed, count_span, count-all, count-some, count-split, sum-none, sum_one, sum-some, sum_more, sum-fewer, sum_same, sum_added}
use Rattle.verdict.specs.Checks.{first_fault}
use Rattle.verdict.specs.Verdict.{Accepted, Refused}
use Rattle.verdict.proofs.Laws.{Clean}
use Rattle.layout.specs.Table.{Table, entries, index_of, count, position_at}
use Rattle.strings.specs.Rules.{Carried}
use Rattle.strings.specs.Order.{all_entry_checks, all_position_checks}
use Rattle.strings.proofs.Accepted.{all_good}
use Rattle.positions.specs.inner.Total.{all_entries, below_in, all_below, Between, FirstUncarried}
use Rattle.positions.proofs.Enough.{same_index, enough}
use Rattle.positions.proofs.Laws.{positions_left, left_start, left_more, left_stop, left_none}

-- ---- the loops that count

-- c of the first j entries of bucket k carry an index below m
pub record Counted (t : Table) (m k j c : ℕ) : Type 0 where
  pub upto : j ≤ entries t k
  pub most : c ≤ j
  pub count : c ≡ how_many j (λ i. dec_le (index_of t k i + 1) m)

module _ (t : Table) (m k : ℕ) where
  pub counted_start : Counted t m k 0 0
  unfolding how_many
  counted_start = record { upto = omega arith; most = omega arith; count = refl }

  module _ (j c : ℕ) (w : Counted t m k j c) where
    pub counted_one : (x : ℕ) → j < entries t k → x ≡ index_of t k j → x < m → Counted t m k (j + 1) (c + 1)
    counted_one x l e h = record {
      upto = omega arith;
      most = omega (arith, w.most);
      count = omega (arith, w.count, count-met (λ i. dec_le (index_of t k i + 1) m) j (j + 1) refl (omega arith));
    }

    pub counted_other : (x : ℕ) → j < entries t k → x ≡ index_of t k j → m ≤ x → Counted t m k (j + 1) c
    counted_other x l e h = record {
      upto = omega arith;
      most = omega (arith, w.most);
      count = omega (arith, w.count, count_missed (λ i. dec_le (index_of t k i + 1) m) j (j + 1) refl (λ z. omega arith));
    }

    pub counted_end : entries t k ≤ j → (c ≡ below_in t m k) × (c ≤ entries t k)
    unfolding below_in
    counted_end l =
        let e : j ≡ entries t k = omega (arith, w.upto) in
        (subst (λ (x : ℕ). c ≡ how_many x (λ i. dec_le (index_of t k i + 1) m)) e w.count, omega (arith, w.most))

-- c of the entries of the first k buckets do
pub record Summed (t : Table) (m k c : ℕ) : Type 0 where
  pub upto : k ≤ t.buckets
  pub sum : c ≡ sum_below k (below_in t m)
  pub most : c ≤ sum_below k (entries t)

module _ (t : Table) (m : ℕ) where
  pub summed_start : Summed t m 0 0
  unfolding sum_below
  summed_start = record { upto = omega arith; sum = refl; most = omega arith }

  module _ (k c : ℕ) (w : Summed t m k c) where
    pub summed_most : c ≤ all_entries t
    unfolding all_entries
    summed_most = omega (arith, w.most, sum-fewer (entries t) k t.buckets w.upto)

    pub summed_more : (x : ℕ) → k < t.buckets → x ≡ below_in t m k → x ≤ entries t k → Summed t m (k + 1) (c + x)
    summed_more x l e h = record {
      upto = omega arith;
      sum = omega (arith, w.sum, sum_more (below_in t m) k (k + 1) refl);
      most = omega (arith, w.most, sum_more (entries t) k (k + 1) refl);
    }

    pub summed_end : t.buckets ≤ k → (c ≡ all_below t m) × (c ≤ all_entries t)
    unfolding all_below
    summed_end l =
        let e : k ≡ t.buckets = omega (arith, w.upto) in
        (subst (λ (x : ℕ). c ≡ sum_below x (below_in t m)) e w.sum, summed_most)

-- ---- how many carry an index below a number

module _ (t : Table) where
  -- the entries of bucket k that carry i
  abbrev with_in : ℕ → ℕ → ℕ
  with_in i k = how_many (entries t k) (λ j. ℕ_discrete (index_of t k j) i)

  -- an index is below i + 1 where it is below i or i itself
  below_split : (i : ℕ) → all_below t (i + 1) ≡ all_below t i + sum_below t.buckets (with_in i)
  unfolding all_below below_in
  below_split i =
      sum_added (below_in t i) (with_in i) t.buckets (below_in t (i + 1))
      (λ k l. count-split (λ j. dec_le (index_of t k j + 1) (i + 1)) (λ j. dec_le (index_of t k j + 1) i) (λ j. ℕ_discrete (index_of t k j) i) (entries t k)
      (λ j m h. ⊎_elim (λ (g : index_of t k j + 1 ≤ i). inl g) (λ g. inr (omega arith)) (le_or_lt (index_of t k j + 1) i))
      (λ j m h. omega arith) (λ j m h. omega arith) (λ j m h g. omega arith))

  -- who carries i
  with_some : (i : ℕ) → 1 ≤ sum_below t.buckets (with_in i) → Carried t i
  with_some i l =
      let w = sum-some (with_in i) t.buckets l in
      (w.0, w.1, count-some (λ j. ℕ_discrete (index_of t w.0 j) i) (entries t w.0) w.2)

  module _ (ok : Clean (all_entry_checks t)) where
    -- one does
    with_one : (i : ℕ) → Carried t i → sum_below t.buckets (with_in i) ≡ 1
    with_one i c =
        let k = c.0 in
        let j = c.2.0 in
        let one =
        count_span (λ n. ℕ_discrete (index_of t k n) i) (entries t k) j (j + 1) (omega arith) (omega (arith, c.2.1))
        (λ n l e. omega (arith, (same_index t ok k n k j c.1 (omega (arith, l, c.2.1)) c.1 c.2.1 (e ∙ sym c.2.2)).1))
        (λ n l h. let q : n ≡ j = omega arith in rw q c.2.2)
        (λ n l h e. omega (arith, (same_index t ok k n k j c.1 h c.1 c.2.1 (e ∙ sym c.2.2)).1)) in
        sum_one (with_in i) t.buckets k c.1
        (λ m l f. count_none (λ n. ℕ_discrete (index_of t m n) i) (entries t m)
        (λ n h e. f (same_index t ok m n k j l h c.1 c.2.1 (e ∙ sym c.2.2)).0))
        ∙ omega (arith, one)

    with_most : (i : ℕ) → sum_below t.buckets (with_in i) ≤ 1
    with_most i = ⊎_elim (λ l. omega (arith, with_one i (with_some i l))) (λ l. omega arith) (le_or_lt 1 (sum_below t.buckets (with_in i)))

    -- no index is below 1
    pub below-first : all_below t 1 ≡ 0
    unfolding all_below below_in
    below-first =
        sum-none (below_in t 1) t.buckets
        (λ k l. count_none (λ j. dec_le (index_of t k j + 1) 1) (entries t k) (λ j m h. omega (arith, h, (all_good t ok k j l m).indexed.low)))

    -- each is below the count
    pub below_last : all_below t (count t) ≡ all_entries t
    unfolding all_below below_in all_entries
    below_last =
        sum_same (below_in t (count t)) (entries t) t.buckets
        (λ k l. count-all (λ j. dec_le (index_of t k j + 1) (count t)) (entries t k) (λ j m. omega (arith, (all_good t ok k j l m).indexed.high)))

    -- at most the positions below m are carried
    pub below-most : (m : ℕ) → all_below t (m + 1) ≤ m
    below-most zero = omega (arith, below-first)
    below-most (suc m) = omega (arith, below_split (suc m), below-most m, with_most (suc m), step)
      where
        step : all_below t (suc m) ≡ all_below t (m + 1)
        step = subst (λ (x : ℕ). all_below t x ≡ all_below t (m + 1)) (omega arith) refl

    -- where they are as many, each is
    pub below-carried : (m : ℕ) → all_below t (m + 1) ≡ m → (i : ℕ) → 1 ≤ i → i ≤ m → Carried t i
    below-carried zero e i l h = absurd (omega arith)
    below-carried (suc m) e i l h =
        let s : all_below t (suc m) ≡ all_below t (m + 1) = subst (λ (x : ℕ). all_below t x ≡ all_below t (m + 1)) (omega arith) refl in
        let p = below_split (suc m) in
        let q = with_most (suc m) in
        let r = below-most m in
        ⊎_elim
        (λ (g : i ≤ m). below-carried m (omega arith) i l g)
        (λ g. let z : suc m ≡ i = omega arith in subst (Carried t) z (with_some (suc m) (omega arith)))
        (le_or_lt i m)

    -- ---- the search

    pub between_start : (n : ℕ) → n ≡ count t → all_entries t + 1 < n → Between t 1 n
    between_start n e l = record {
      low = omega arith;
      apart = omega arith;
      high = omega arith;
      carried = omega (arith, below-first);
      not-all = λ q. let z : all_below t n ≡ all_entries t = subst (λ (x : ℕ). all_below t x ≡ all_entries t) (sym e) below_last in omega arith;
    }

    -- one round: all before mid are carried, or not
    pub between_up : (lo hi mid c : ℕ) → Between t lo hi → lo < mid → mid < hi → c ≡ all_below t mid → c + 1 ≡ mid → Between t mid hi
    between_up lo hi mid c w l h e f = record { low = omega (arith, w.low); apart = h; high = w.high; carried = omega arith; not-all = w.not-all }

    pub between_down : (lo hi mid c : ℕ) → Between t lo hi → lo < mid → mid < hi → c ≡ all_below t mid → (c + 1 ≡ mid → ⊥) → Between t lo mid
    between_down lo hi mid c w l h e f = record {
      low = w.low;
      apart = l;
      high = omega (arith, w.high);
      carried = w.carried;
      not-all = λ q. f (omega arith);
    }

    pub between_end : (lo hi : ℕ) → Between t lo hi → hi ≤ lo + 1 → FirstUncarried t lo
    between_end lo hi w l =
        let e : hi ≡ lo + 1 = omega (arith, w.apart) in
        record {
          low = w.low;
          high = omega (arith, w.high);
          before = λ m a b. below-carried (lo - 1) (prior (omega (arith, w.low))) m a (omega arith);
          uncarried = λ c. w.not-all (subst (λ (x : ℕ). all_below t x + 1 ≡ x) (sym e) (omega (arith, below_split lo, with_one lo c, w.carried)));
        }
      where
        prior : lo - 1 + 1 ≡ lo → all_below t (lo - 1 + 1) ≡ lo - 1
        prior q = subst (λ (x : ℕ). all_below t x ≡ lo - 1) (sym q) (omega (arith, w.carried))

    -- ---- 13

    -- the positions before one that no entry carries
    upto : (i : ℕ) → 1 ≤ i → i ≤ count t → ((m : ℕ) → 1 ≤ m → m < i → Carried t m) → positions_left t 1 ≡ positions_left t i
    upto zero l h f = absurd (omega arith)
    upto (suc zero) l h f = refl
    upto (suc (suc i)) l h f =
        upto (suc i) (omega arith) (omega arith) (λ m a b. f m a (omega arith))
        ∙ left_more t (suc i) (omega arith) (f (suc i) (omega arith) (omega arith))
        ∙ subst (λ (x : ℕ). positions_left t (suc i + 1) ≡ positions_left t x) (omega arith) refl

    pub first-refused : (i e : ℕ) → FirstUncarried t i → e ≡ position_at t i → first_fault (all_position_checks t) ≡ Refused 13 e
    first-refused i e w q = left_start t ∙ upto i w.low (omega (arith, w.high)) w.before ∙ left_stop t i e w.high q w.uncarried

    -- as many entries as positions, or no positions at all
    pub none-refused : (n : ℕ) → n ≡ count t → n ≤ all_entries t + 1 → first_fault (all_position_checks t) ≡ Accepted
    none-refused n e l =
        ⊎_elim
        (λ (h : 1 ≤ n). enough t ok (omega (arith, full (omega arith))))
        (λ h. left_start t ∙ left_none t 1 (omega arith))
        (le_or_lt 1 n)
      where
        full : 1 ≤ count t → all_entries t ≤ count t - 1
        full h =
            let q : count t - 1 + 1 ≡ count t = omega arith in
            let m = below-most (count t - 1) in
            let z : all_below t (count t - 1 + 1) ≡ all_entries t = subst (λ (x : ℕ). all_below t x ≡ all_entries t) (sym q) below_last in
            omega arith
