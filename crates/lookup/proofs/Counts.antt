-- How many entries have a hash. Assumes nothing.
use Prim.Native.Nat.{ℕ, ◌-◌, ◌≤◌, ◌<◌}
use native.Mathlib.Decide.{ℕ_discrete}
use native.Mathlib.Omega.{arith}
use mathlib.Core.Path.{◌≡◌, sym, ap, ◌∙◌}
use mathlib.Core.Logic.{◌↔◌}
use Rattle.laws.specs.Counting.{how_many}
use Rattle.laws.proofs.Counting.{count_none, count_most, count_span, count-some, some_counted, sum_one, sum-some, some_summed}
use Rattle.verdict.proofs.Laws.{Clean}
use Rattle.hash.specs.Hash.{bucket_of}
use Rattle.layout.specs.Table.{Table, entries, hash_of}
use Rattle.strings.specs.Order.{all_entry_checks}
use Rattle.strings.proofs.Accepted.{all_good}
use Rattle.strings.proofs.Only.{rises}
use Rattle.lookup.specs.Collisions.{HasHash, hash_count}

-- some have it exactly where the count is not 0
pub counted_iff : (t : Table) (h : ℕ) → HasHash t h ↔ (1 ≤ hash_count t h)
unfolding hash_count
counted_iff t h = (
  λ w.
      let a = some_counted (λ j. ℕ_discrete (hash_of t w.0 j) h) (entries t w.0) w.2.0 w.2.1 w.2.2 in
      omega (arith, a, some_summed (λ k. how_many (entries t k) (λ j. ℕ_discrete (hash_of t k j) h)) t.buckets w.0 w.1),
  λ l.
      let w = sum-some (λ k. how_many (entries t k) (λ j. ℕ_discrete (hash_of t k j) h)) t.buckets l in
      (w.0, w.1, count-some (λ j. ℕ_discrete (hash_of t w.0 j) h) (entries t w.0) w.2),
)

module _ (t : Table) (ok : Clean (all_entry_checks t)) (h k : ℕ) (b : k < t.buckets) (e : bucket_of t.buckets h ≡ k) where
  -- they all stand in its bucket
  counted_there : hash_count t h ≡ how_many (entries t k) (λ j. ℕ_discrete (hash_of t k j) h)
  unfolding hash_count
  counted_there =
      sum_one (λ k. how_many (entries t k) (λ j. ℕ_discrete (hash_of t k j) h)) t.buckets k b
      (λ i l f. count_none (λ j. ℕ_discrete (hash_of t i j) h) (entries t i)
      (λ j m q. f (sym (all_good t ok i j l m).placed.bucket ∙ ap (bucket_of t.buckets) q ∙ e)))

  pub count-within : hash_count t h ≤ entries t k
  count-within = omega (arith, counted_there, count_most (λ j. ℕ_discrete (hash_of t k j) h) (entries t k))

  -- those from `low` on, up to the first with a hash above
  module _ (low j : ℕ) (l : low ≤ j) (m : j ≤ entries t k) (below : (i : ℕ) → i < low → hash_of t k i < h)
      (equal : (i : ℕ) → low ≤ i → i < j → hash_of t k i ≡ h) where
    counted_run : ((i : ℕ) → j ≤ i → i < entries t k → hash_of t k i ≡ h → ⊥) → hash_count t h ≡ j - low
    counted_run f =
        counted_there
        ∙ count_span (λ i. ℕ_discrete (hash_of t k i) h) (entries t k) low j l m (λ i a q. omega (arith, below i a, q)) equal f

    pub counted_end : entries t k ≤ j → hash_count t h ≡ j - low
    counted_end a = counted_run (λ i c d q. omega arith)

    pub counted_over : j < entries t k → h < hash_of t k j → hash_count t h ≡ j - low
    counted_over a c = counted_run (λ i d g q. omega (arith, q, rises t ok k j i b d g))
