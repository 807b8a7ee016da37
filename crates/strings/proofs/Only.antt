-- Of entries that all pass: which bucket a text is in, that hashes ascend there, and that no two entries bear one text.
-- Assumes nothing.
use Prim.Native.Nat.{ℕ, ◌≤◌, ◌<◌}
use native.Mathlib.Nat.{eq-or-lt_of_le}
use native.Mathlib.Omega.{arith}
use mathlib.Core.Path.{◌≡◌, refl, ap, sym, subst, ◌∙◌}
use mathlib.Core.Logic.{⊎_elim}
use mathlib.Core.List.{List}
use Rattle.laws.proofs.Order.{le_or_lt}
use Rattle.verdict.proofs.Laws.{Clean}
use Rattle.hash.specs.Hash.{hash_text, bucket_of}
use Rattle.layout.specs.Table.{Table, entries, hash_of, index_of, segment_of, element_of, listed_segment, listed_element}
use Rattle.strings.specs.Texts.{text_to, text_of, listed_text}
use Rattle.strings.specs.inner.Held.{Sorted}
use Rattle.strings.specs.Order.{all_entry_checks}
use Rattle.strings.proofs.Accepted.{all_good, good_text}
use Rattle.strings.proofs.Runs.{up}

-- an entry bears the text at its address
pub text-of-address : (t : Table) (k j seg el : ℕ) → segment_of t k j ≡ seg → element_of t k j ≡ el → text_of t k j ≡ text_to t seg el
unfolding text_of
text-of-address t k j seg el p q = ap (λ (x : ℕ). text_to t x (element_of t k j)) p ∙ ap (text_to t seg) q

module _ (t : Table) (ok : Clean (all_entry_checks t)) where
  -- an entry that bears a text has its hash
  pub hash-of : (k j : ℕ) (q : List ℕ) → k < t.buckets → j < entries t k → text_of t k j ≡ q → hash_of t k j ≡ hash_text q
  hash-of k j q h l e = (all_good t ok k j h l).hashed ∙ ap hash_text e

  -- and stands in the bucket of that hash
  pub bucket-of : (k j : ℕ) (q : List ℕ) → k < t.buckets → j < entries t k → text_of t k j ≡ q → bucket_of t.buckets (hash_text q) ≡ k
  bucket-of k j q h l e = ap (bucket_of t.buckets) (sym (hash-of k j q h l e)) ∙ (all_good t ok k j h l).placed.bucket

  -- an entry that carries an index bears the text at that list position
  pub text-of-index : (k j i : ℕ) → k < t.buckets → j < entries t k → index_of t k j ≡ i → text_of t k j ≡ listed_text t i
  unfolding listed_text
  text-of-index k j i h l e =
      let g = (all_good t ok k j h l).indexed in
      text-of-address t k j _ _ (sym g.segment ∙ ap (listed_segment t) e) (sym g.element ∙ ap (listed_element t) e)

  one_in_bucket : (k i j : ℕ) → k < t.buckets → i < entries t k → j < entries t k → text_of t k i ≡ text_of t k j → i ≡ j
  one_in_bucket k i j h l m e = ⊎_elim (λ w. ⊎_elim (λ q. q) (λ w. absurd ((all_good t ok k j h m).alone (i, w, e))) (eq-or-lt_of_le w))
      (λ w. absurd ((all_good t ok k i h l).alone (j, w, sym e))) (le_or_lt i j)

  pub same-bucket : (k j m i : ℕ) → k < t.buckets → j < entries t k → m < t.buckets → i < entries t m → text_of t k j ≡ text_of t m i → k ≡ m
  same-bucket k j m i h l g n e = sym (bucket-of k j (text_of t m i) h l e) ∙ bucket-of m i (text_of t m i) g n refl

  -- entries with one text are one entry
  pub one_entry : (k j m i : ℕ) → k < t.buckets → j < entries t k → m < t.buckets → i < entries t m → text_of t k j ≡ text_of t m i
      → (k ≡ m) × (j ≡ i)
  one_entry k j m i h l g n e =
      let q = same-bucket k j m i h l g n e in
      (q, subst (λ (x : ℕ). i < entries t x → text_of t k j ≡ text_of t x i → j ≡ i) q (λ n e. one_in_bucket k j i h l n e) n e)

  -- and have one index
  pub one_index : (k j m i : ℕ) → k < t.buckets → j < entries t k → m < t.buckets → i < entries t m → text_of t k j ≡ text_of t m i
      → index_of t k j ≡ index_of t m i
  one_index k j m i h l g n e =
      let q = one_entry k j m i h l g n e in
      ap (λ (x : ℕ). index_of t x j) q.0 ∙ ap (index_of t m) q.1

  sorted_all : (k j : ℕ) → k < t.buckets → j < entries t k → Sorted t k j
  sorted_all k j h l = record {
    right = λ i m. good_text t k i (all_good t ok k i h (omega arith));
    ascends = λ i m. (all_good t ok k i h (omega arith)).placed.ascends;
  }

  -- hashes ascend within a bucket
  pub rises : (k m i : ℕ) → k < t.buckets → m ≤ i → i < entries t k → hash_of t k m ≤ hash_of t k i
  rises k m i h a l = up t k i (sorted_all k i h l) m i a (omega arith)

  -- past an entry whose hash is above a text's hash, none bears the text
  pub none_after : (k j m : ℕ) (q : List ℕ) → k < t.buckets → m < entries t k → j ≤ m → hash_text q < hash_of t k j → text_of t k m ≡ q → ⊥
  none_after k j m q h l a g e = omega (arith, rises k j m h a l, hash-of k m q h l e)
