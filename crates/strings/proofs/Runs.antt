-- Runs of equal hashes in a bucket: where a duplicate stands (12). Assumes nothing.
use Prim.Native.Nat.{ℕ, zero, suc, ◌+◌, ◌-◌, ◌≤◌, ◌<◌}
use native.Mathlib.Nat.{le_refl, le_trans, eq-or-lt_of_le}
use native.Mathlib.Omega.{arith}
use mathlib.Core.Path.{◌≡◌, ap, sym, subst, ◌∙◌}
use mathlib.Core.Logic.{⊎_elim}
use lib.ListN.{length}
use Rattle.laws.proofs.Order.{le_or_lt}
use Rattle.verdict.proofs.Laws.{Clean}
use Rattle.hash.specs.Hash.{hash_text}
use Rattle.layout.specs.Table.{Table, hash_of, length_of}
use Rattle.strings.specs.Texts.{text_of}
use Rattle.strings.specs.Rules.{Placed, Duplicate}
use Rattle.strings.specs.inner.Held.{TextPasses, Sorted}
use Rattle.strings.specs.Order.{entry_checks}
use Rattle.strings.proofs.Accepted.{entry_good, good_text}

-- no entry from i up to j has j's text
unfoldable pub Alone : Table → ℕ → ℕ → ℕ → Type 0
Alone t k j i = (m : ℕ) → i ≤ m → m < j → text_of t k m ≡ text_of t k j → ⊥

-- texts whose entries have other lengths are not the same
pub parted : (t : Table) (k i j x y : ℕ) → TextPasses t k i → TextPasses t k j → x ≡ length_of t k i → y ≡ length_of t k j → (x ≡ y → ⊥)
    → text_of t k i ≡ text_of t k j → ⊥
parted t k i j x y r s p q d e =
    let n : length (text_of t k i) ≡ length (text_of t k j) = ap length e in
    d (omega (arith, p, q, r.sized, s.sized))

module _ (t : Table) (k j : ℕ) where
  pub alone_more : (i n : ℕ) → n + 1 ≡ i → Alone t k j i → (text_of t k n ≡ text_of t k j → ⊥) → Alone t k j n
  unfolding Alone
  alone_more i n e f g m l h q = ⊎_elim (λ w. g (ap (text_of t k) w ∙ q)) (λ w. f m (omega arith) h q) (eq-or-lt_of_le l)

  pub alone_none : (i : ℕ) → i ≤ 0 → Alone t k j i → ¬ Duplicate t k j
  unfolding Alone
  alone_none i l f w = f w.0 (omega arith) w.1 w.2

  module _ (r : Sorted t k j) where
    rising : (n m : ℕ) → n + m ≤ j → hash_of t k m ≤ hash_of t k (n + m)
    rising zero m l = let z : zero + m ≡ m = omega arith in rw z (le_refl (hash_of t k m))
    rising (suc n) m l =
        let z : (suc n + m) - 1 ≡ n + m = omega arith in
        le_trans (rising n m (omega arith)) (subst (λ (x : ℕ). hash_of t k x ≤ hash_of t k (suc n + m)) z (r.ascends (suc n + m) l))

    pub up : (m i : ℕ) → m ≤ i → i ≤ j → hash_of t k m ≤ hash_of t k i
    up m i l h =
        let z : (i - m) + m ≡ i = omega arith in
        subst (λ (x : ℕ). hash_of t k m ≤ hash_of t k x) z (rising (i - m) m (omega arith))

    -- where the run is over no entry before has the text
    pub alone_over : (i n h g : ℕ) → n + 1 ≡ i → i ≤ j → Alone t k j i → h ≡ hash_of t k j → g ≡ hash_of t k n → (g ≡ h → ⊥) → ¬ Duplicate t k j
    unfolding Alone
    alone_over i n h g e l f q p d w = ⊎_elim (λ a. f w.0 a w.1 w.2) (λ a. below a) (le_or_lt i w.0)
      where
        below : w.0 < i → ⊥
        below a =
            let m = w.0 in
            let x = up m n (omega arith) (omega arith) in
            let y = up n j (omega arith) (omega arith) in
            let z : hash_of t k m ≡ hash_of t k j = (r.right m (omega (arith, w.1))).hashed ∙ ap hash_text w.2 ∙ sym (r.right j (le_refl j)).hashed in
            d (omega arith)

  pub duplicate_found : (i n : ℕ) → n + 1 ≡ i → i ≤ j → text_of t k n ≡ text_of t k j → Duplicate t k j
  duplicate_found i n e l q = (n, omega arith, q)

  -- an entry whose text is right and that is placed, behind entries that passed
  pub sorted : ((i : ℕ) → i < j → Clean (entry_checks t k i)) → TextPasses t k j → Placed t k j → Sorted t k j
  sorted f r p = record {
    right = λ i l. ⊎_elim (λ q. subst (TextPasses t k) (sym q) r) (λ w. good_text t k i (entry_good t k i (f i w))) (eq-or-lt_of_le l);
    ascends = λ i l. ⊎_elim (λ q. subst (λ (x : ℕ). hash_of t k (x - 1) ≤ hash_of t k x) (sym q) p.ascends) (λ w. (entry_good t k i (f i w)).placed.ascends)
        (eq-or-lt_of_le l);
  }
