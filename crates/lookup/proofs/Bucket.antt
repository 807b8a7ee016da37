-- The search for the entry that bears a text. Assumes nothing.
use Prim.Native.Nat.{ℕ, ◌+◌, ◌-◌, ◌*◌, ◌≤◌, ◌<◌}
use native.Mathlib.Omega.{arith}
use mathlib.Core.Path.{◌≡◌, ap, sym, subst, ◌∙◌}
use mathlib.Core.Logic.{⊎_elim}
use mathlib.Core.Bool.{Bool}
use mathlib.Core.List.{List}
use borrow.Author.Count.{below_more}
use lib.ListN.{length}
use Rattle.laws.proofs.Order.{le_or_lt}
use Rattle.verdict.specs.inner.Tells.{Tells}
use Rattle.verdict.proofs.Laws.{Clean}
use Rattle.hash.specs.Hash.{hash_text, bucket_of}
use Rattle.region.specs.Region.{place_of}
use Rattle.text.specs.Text.{chars, text_in, room_at, holds_zero?}
use Rattle.text.proofs.Laws.{text-chars, text_length_le}
use Rattle.layout.proofs.Laws.{bucket-first, bucket-fits}
use Rattle.layout.specs.Table.{Table, TableLaid, entries, entry_at, hash_of, length_of, segment_of, element_of}
use Rattle.strings.specs.Texts.{text_of}
use Rattle.strings.specs.Rules.{Resolved}
use Rattle.strings.specs.inner.Held.{Here}
use Rattle.strings.specs.Order.{all_entry_checks, string_checks}
use Rattle.search.specs.inner.LowerBound.{LowerBound}
use Rattle.strings.specs.Texts.{At}
use Rattle.strings.proofs.Accepted.{strings_parts, all_good}
use Rattle.strings.proofs.Spots.{Spotted, spot_yes, spot-text}
use Rattle.strings.proofs.Only.{bucket-of, none_after}
use Rattle.search.proofs.Nearby.{none_before}
use Rattle.lookup.specs.Collisions.{hash_count}
use Rattle.lookup.specs.Lookup.{Borne, told_unborne, entry_of_text}
use Rattle.lookup.specs.declared.Lookup.{Lookup}
use Rattle.lookup.specs.declared.Lookup.TheVariants.{Found}
use Rattle.lookup.proofs.Counts.{counted_end, counted_over}
use Rattle.lookup.proofs.Found.{told_none, told-some}

-- ---- one entry

pub entry-resolved : (t : Table) (k j : ℕ) → Clean (string_checks t) → Here t k j → Resolved t k j
entry-resolved t k j ok h = (all_good t (strings_parts t ok).0 k j h.bucket h.entry).resolved

-- an entry of another length bears another text
pub other_length : (t : Table) (x : List ℕ) (k j w n : ℕ) → Clean (string_checks t) → Here t k j → w ≡ length_of t k j → length x ≡ n → (w ≡ n + 1 → ⊥) → text_of t k j ≡ x → ⊥
other_length t x k j w n ok h e l f q =
    f (omega (arith, e, (all_good t (strings_parts t ok).0 k j h.bucket h.entry).sized, ap length q))

-- of n characters: they stand at its spot, and a 0 or the first bucket's count is behind them
pub record Standing (t : Table) (k j p n : ℕ) : Type 0 where
  pub ends : p + 2 * n + 2 ≤ length t.bytes
  pub text : text_of t k j ≡ chars t.bytes p n

pub standing : (t : Table) (k j p m w n : ℕ) {most : ℕ} → TableLaid t most → Clean (string_checks t) → Here t k j → Spotted t (segment_of t k j) (element_of t k j) p m → w ≡ length_of t k j → w ≡ n + 1
    → Standing t k j p n
unfolding text_of
standing t k j p m w n laid ok h s e f =
    let g = (all_good t (strings_parts t ok).0 k j h.bucket h.entry).sized in
    let d : length (text_in t.bytes p m) ≡ n = omega (arith, e, ap length s.text, g) in
    record {
      ends = omega (arith, d, s.within, text_length_le t.bytes p m, bucket-first t, bucket-fits t laid 0 (omega (arith, h.bucket)));
      text = sym s.text ∙ text-chars t.bytes p m ∙ ap (chars t.bytes p) d;
    }

-- found by its address
pub addressed : (t : Table) (k j p w n : ℕ) {most : ℕ} → Clean (string_checks t) → TableLaid t most → Here t k j → p ≡ place_of 2 t.bytes t.at (segment_of t k j) (element_of t k j)
    → w ≡ length_of t k j → w ≡ n + 1 → Standing t k j p n
addressed t k j p w n ok laid h q e f =
    let a = entry-resolved t k j ok h in
    standing t k j p _ w n laid ok h
    (spot-text t (segment_of t k j) (element_of t k j) laid.characters
    (spot_yes t.bytes t.at _ _ a.seg_in a.el_in ∙ ap (λ (x : ℕ). At x (room_at t.bytes t.at (segment_of t k j) (element_of t k j))) (sym q)))
    e f

-- its length counts the 0
pub long-some : (t : Table) (k j w : ℕ) → Clean (string_checks t) → Here t k j → w ≡ length_of t k j → 1 ≤ w
long-some t k j w ok h e = omega (arith, e, (all_good t (strings_parts t ok).0 k j h.bucket h.entry).sized)

-- compared there
pub text_there : (t : Table) (x : List ℕ) (k j p n : ℕ) {r : Bool} → Standing t k j p n → Tells (chars t.bytes p n ≡ x) r → Tells (text_of t k j ≡ x) r
text_there t x k j p n s f = record {
  so = λ w. s.text ∙ f.so w;
  not = λ w e. f.not w (sym s.text ∙ e);
}

-- ---- the loop over a bucket

-- it is the text's bucket, no entry before j bears the text, those from `low` on have its hash, and from j on no hash is below it
pub record Searched (t : Table) (x : List ℕ) (h k m low j : ℕ) : Type 0 where
  pub hash : h ≡ hash_text x
  pub bucket : k < t.buckets
  pub right : bucket_of t.buckets (hash_text x) ≡ k
  pub many : m ≡ entries t k
  pub from : low ≤ j
  pub upto : j ≤ entries t k
  pub none : (i : ℕ) → i < j → i < entries t k → text_of t k i ≡ x → ⊥
  pub below : (i : ℕ) → i < low → hash_of t k i < h
  pub equal : (i : ℕ) → low ≤ i → i < j → hash_of t k i ≡ h
  pub above : (i : ℕ) → j ≤ i → i < entries t k → h ≤ hash_of t k i

pub searched_start : (t : Table) (x : List ℕ) (h k m j : ℕ) → Clean (string_checks t) → h ≡ hash_text x → k ≡ bucket_of t.buckets h → k < t.buckets
    → m ≡ entries t k → LowerBound t (bucket_of t.buckets h) h j → Searched t x h k m j j
searched_start t x h k m j ok e q b n g = let l = subst (λ (y : ℕ). LowerBound t y h j) (sym q) g in record {
  hash = e;
  bucket = b;
  right = ap (bucket_of t.buckets) (sym e) ∙ sym q;
  many = n;
  from = omega arith;
  upto = l.upto;
  none = λ i a c. none_before t (strings_parts t ok).0 k j i x b (subst (λ (y : ℕ). LowerBound t k y j) e l) c a;
  below = l.below;
  equal = λ i a c. absurd (omega arith);
  above = l.above;
}

module _ (t : Table) (x : List ℕ) (h k m low j : ℕ) (r : Searched t x h k m low j) where
  pub searched_more : (w : ℕ) → j < m → w ≡ hash_of t k j → w ≡ h → (text_of t k j ≡ x → ⊥) → Searched t x h k m low (j + 1)
  searched_more w l e g f = record {
    hash = r.hash;
    bucket = r.bucket;
    right = r.right;
    many = r.many;
    from = omega (arith, r.from);
    upto = omega (arith, l, r.many);
    none = below_more _ j r.none (λ l. f);
    below = r.below;
    equal = λ i a c. below_more (λ i. low ≤ i → hash_of t k i ≡ h) j (λ i c a. r.equal i a c) (λ a. sym e ∙ g) i c a;
    above = λ i a l. r.above i (omega arith) l;
  }

  module _ (ok : Clean (string_checks t)) (d : Lookup) (told : d ≡ told_unborne x (holds_zero? x) (j - low)) where
    entries_clean : Clean (all_entry_checks t)
    entries_clean = (strings_parts t ok).0

    -- no entry of another bucket bears the text, nor one before j: where none from j on does, none does
    none_from : hash_count t h ≡ j - low → ((i : ℕ) → j ≤ i → i < entries t k → text_of t k i ≡ x → ⊥) → d ≡ entry_of_text t x
    unfolding entry_of_text
    none_from c g =
        told ∙ ap (told_unborne x (holds_zero? x)) (sym c ∙ ap (hash_count t) r.hash) ∙ sym (told_none (entry_at t) t x unborne)
      where
        unborne : ¬ Borne t x
        unborne w =
            let y : w.0 ≡ k = sym (bucket-of t entries_clean w.0 w.2.0 x w.1 w.2.1 w.2.2) ∙ r.right in
            let v = subst (λ (b : ℕ). (w.2.0 < entries t b) × (text_of t b w.2.0 ≡ x)) y (w.2.1, w.2.2) in
            ⊎_elim (λ l. g w.2.0 l v.0 v.1) (λ l. r.none w.2.0 l v.0 v.1) (le_or_lt j w.2.0)

    bucket-right : bucket_of t.buckets h ≡ k
    bucket-right = ap (bucket_of t.buckets) r.hash ∙ r.right

    -- at another hash the text's own are over
    pub searched_over : (w : ℕ) → j < m → w ≡ hash_of t k j → (w ≡ h → ⊥) → d ≡ entry_of_text t x
    searched_over w l e f =
        let n : j < entries t k = omega (arith, r.many) in
        let a = r.above j (omega arith) n in
        none_from
        (counted_over t entries_clean h k r.bucket bucket-right low j r.from r.upto r.below r.equal n (omega arith))
        (λ i b c. none_after t entries_clean k j i x r.bucket c b (omega (arith, r.hash)))

    pub searched_end : m ≤ j → d ≡ entry_of_text t x
    searched_end l =
        none_from
        (counted_end t entries_clean h k r.bucket bucket-right low j r.from r.upto r.below r.equal (omega (arith, r.many)))
        (λ i a b e. omega (arith, r.many))

  pub searched_found : Clean (string_checks t) → (e : ℕ) → Here t k j → e ≡ entry_at t k j → text_of t k j ≡ x → Found e ≡ entry_of_text t x
  unfolding entry_of_text
  searched_found ok e l q p = ap Found q ∙ sym (told-some (entry_at t) t x ok k j l p)
