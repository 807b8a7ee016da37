-- What the steps of a batch find out, and 19 of its attributes from that. Assumes nothing.
use Prim.Native.Nat.{ℕ, ◌+◌, ◌*◌, ◌≤◌, ◌<◌}
use native.Mathlib.Nat.{mul-le-mul_right}
use native.Mathlib.Omega.{arith}
use mathlib.Core.Path.{◌≡◌, ap, sym, subst, ◌∙◌}
use mathlib.Core.Logic.{⊎_elim}
use mathlib.Core.Bool.{Bool}
use mathlib.Core.List.{List}
use borrow.Author.Count.{below_none, below_more}
use lib.ListN.{length, get_or}
use Rattle.le.specs.Le.{u32_at}
use Rattle.words.specs.Words.{extended_of}
use Rattle.hash.specs.Fold.{value_hash}
use Rattle.region.specs.Region.{Laid, count_of, start_of, full_of, used_of, place_of}
use Rattle.region.specs.inner.Samples.{Mapped}
use Rattle.region.specs.declared.Region.{Region}
use Rattle.region.proofs.Samples.{segment-fits, used-at}
use Rattle.text.proofs.Laws.{room-some}
use Rattle.layout.specs.Table.{Table, entries}
use Rattle.layout.specs.Edition.{attribute_size}
use Rattle.layout.specs.Layout.{attributes_at, values}
use Rattle.layout.specs.declared.Edition.{Edition}
use Rattle.strings.specs.Texts.{spot_at, text_to}
use Rattle.strings.specs.declared.spot.Spot.{Spot}
use Rattle.strings.specs.Texts.{At}
use Rattle.strings.proofs.Spots.{spot_in, spot-text}
use Rattle.strings.proofs.Begun.{begins-first, begins_behind}
use Rattle.positions.specs.inner.Packed.{Packed}
use Rattle.nodes.specs.Attribute.{type_word, value_word, text_segment, text_element}
use Rattle.strings.specs.Rules.{EntryAddress}
use Rattle.nodes.specs.inner.Doubts.{Trusted}
use Rattle.prefetch.specs.inner.Examined.{Kept}
use Rattle.prefetch.proofs.Doubting.{still}
use Rattle.verdict.specs.Checks.{SomeBelow}
use Rattle.verdict.specs.inner.Tells.{Sure}
use Rattle.nodes.proofs.Addresses.{text_sought, spot-fits, address-of}
use Rattle.le.proofs.Numbers.{Bytes}
use Rattle.search.specs.inner.Run.{word_of}
use Rattle.prefetch.specs.inner.Batch.{TextSpot, SpotFits, AllSpots, AllBehind, AllHashed, AllFound, AllRight}
use Rattle.std.specs.Prelude.{Option}
use Rattle.std.specs.Bool.{MatchBool}
use Rattle.std.specs.List.{AllWithin, range_with_len}
use Rattle.std.proofs.lemmas.List.FromFn.{length-range_with_len, get_or-range_with_len}
use Rattle.prefetch.specs.inner.Slots.{Each}
use Rattle.prefetch.specs.declared.steps.SlotText.{SlotText}

-- an entry in one bucket has the address of the attribute's text
pub entry_in : (b : List ℕ) → Bytes b → (q : ℕ) (t : Table) → t.bytes ≡ b → (k w : ℕ) → k < t.buckets → w ≡ value_word b q
    → SomeBelow (entries t k) (λ j. word_of t k j 12 ≡ w) → EntryAddress t (text_segment b q) (text_element b q)
entry_in b f q t same k w l e s = (k, l, (s.0, s.1, address-of b f q t same k s.0 (s.2 ∙ e)))

pub found_at : (b : List ℕ) (t : Table) {q p : ℕ} → q ≡ p → EntryAddress t (text_segment b q) (text_element b q) → EntryAddress t (text_segment b p) (text_element b p)
found_at b t e w = subst (λ (i : ℕ). EntryAddress t (text_segment b i) (text_element b i)) e w

-- what `all` answers of the numbers below n
pub sure_below : (P : ℕ → Type 0) (n : ℕ) (Q : Type 0) {r : Bool} → MatchBool r (AllWithin P (range_with_len 0 n) 0 (length (range_with_len 0 n))) Q
    → Sure (Each n P) r
sure_below P n Q w z j l =
    let a = rw z at w in
    let e : get_or (range_with_len 0 n) j 0 ≡ j = omega (arith, get_or-range_with_len 0 n j 0 l) in
    subst P e (a j 0 (omega arith) (omega (arith, length-range_with_len 0 n)))

-- a spot found for an attribute's text
pub spot_of : {b : List ℕ} {r q seg el x n : ℕ} {a : Option Spot} → seg ≡ text_segment b q → el ≡ text_element b q → a ≡ spot_at b r seg el → a ≡ At x n → TextSpot b r q x n
spot_of {b} {r} {q} s t e f = record { spot = sym (text_sought b r q s t e) ∙ f }

-- and what is left there lies in the file
pub fits-of : {b : List ℕ} {r x n : ℕ} {a : Option Spot} (seg el : ℕ) → Laid 2 b r → a ≡ spot_at b r seg el → a ≡ At x n → SpotFits b x n
unfolding place_of
fits-of {b} {r} seg el laid e f =
    let w = spot_in _ _ _ _ (sym e ∙ f) in
    record {
      some = omega (arith, w.2, room-some b r seg el w.0);
      past = omega (arith, w.1);
      inside = spot-fits b r seg el laid e f;
    }

-- in a packed table each is at an entry's address
pub all_found : (b : List ℕ) (t : Table) (slots : List ℕ) (texts : List SlotText) (n : ℕ) → t.bytes ≡ b → Packed t
    → AllSpots t.bytes t.at slots n texts → AllBehind t.bytes slots n texts → AllFound t.bytes t slots n
all_found b t slots texts n y p s h j l =
    let w = spot_in _ _ _ _ (s.each j l).spot in
    p _ _ w.0 (⊎_elim (begins-first _ _ _ _) (begins_behind _ _ _ _ _ w.1) (h j l))

-- 19 of every attribute of the batch
pub all_right : (ed : Edition) (b : List ℕ) (t : Table) (slots : List ℕ) (texts : List SlotText) (n : ℕ) → t.bytes ≡ b → t ≡ values ed b → Laid 2 t.bytes t.at
    → AllSpots t.bytes t.at slots n texts → AllHashed t.bytes slots n texts → AllFound t.bytes t slots n → AllRight ed t.bytes slots n
all_right ed b t slots texts n y e laid s h f j l k = record {
  entry = there EntryAddress (f j l);
  hash = there (λ u v w. extended_of (type_word t.bytes (get_or slots j 0)) ≡ value_hash (text_to u v w))
      (h j l ∙ ap value_hash (spot-text t _ _ laid (s.each j l).spot).text);
}
  where
    there : (P : Table → ℕ → ℕ → Type 0)
        → P t (text_segment t.bytes (get_or slots j 0)) (text_element t.bytes (get_or slots j 0))
        → P (values ed t.bytes) (text_segment t.bytes (get_or slots j 0)) (text_element t.bytes (get_or slots j 0))
    there P p = subst (λ (u : Table). P u (text_segment t.bytes (get_or slots j 0)) (text_element t.bytes (get_or slots j 0))) (e ∙ ap (values ed) (sym y)) p

-- ---- all used attributes: the rows of the segments

-- the rows before segment seg
abbrev pub RowsTrusted : Edition → List ℕ → List ℕ → ℕ → Type 0
RowsTrusted ed b d seg = (s : ℕ) → s < seg → (e : ℕ) → e < used_of (attribute_size ed) b (attributes_at b) s → Trusted ed b d (place_of (attribute_size ed) b (attributes_at b) s e)

module _ (ed : Edition) (b : List ℕ) {g : Region} (w : Mapped (attribute_size ed) b (attributes_at b) g) where
  pub rows_start : (at : ℕ) → at ≡ g.at + 4 → at ≡ start_of (attribute_size ed) b (attributes_at b) 0
  unfolding start_of
  rows_start at e = omega (arith, w.at_is)

  module _ (seg at : ℕ) (h : seg < g.count) (q : at ≡ start_of (attribute_size ed) b (attributes_at b) seg) where
    pub segment_in : at + 8 + u32_at b at * attribute_size ed ≤ length b
    segment_in = segment-fits (attribute_size ed) _ _ w seg at h q

    pub row_in : (used : ℕ) → used ≡ u32_at b (at + 4) → at + 8 + used * attribute_size ed ≤ length b
    row_in used e =
        let l : seg < count_of b (attributes_at b) = omega (arith, w.count_is) in
        let m : used ≤ full_of (attribute_size ed) b (attributes_at b) seg = omega (arith, used-at (attribute_size ed) b (attributes_at b) seg at used q e, w.laid.used seg l) in
        omega (arith, mul-le-mul_right (attribute_size ed) m, w.laid.fits seg l)

pub rows_none : (ed : Edition) (b d : List ℕ) → RowsTrusted ed b d 0
rows_none ed b d = below_none _

pub rows_still : (ed : Edition) (b d d' : List ℕ) (seg : ℕ) → Kept d d' → RowsTrusted ed b d seg → RowsTrusted ed b d' seg
rows_still ed b d d' seg k r s l e h = still k (r s l e h)

-- one row more, which starts at `at`
pub rows_more : (ed : Edition) (b d : List ℕ) (seg at used el : ℕ) → RowsTrusted ed b d seg → at ≡ start_of (attribute_size ed) b (attributes_at b) seg → used ≡ used_of (attribute_size ed) b (attributes_at b) seg
    → used ≤ el → ((i : ℕ) → i < el → Trusted ed b d (at + 8 + i * attribute_size ed)) → RowsTrusted ed b d (seg + 1)
unfolding place_of
rows_more ed b d seg at used el r p q l h =
    below_more (λ (s : ℕ). (e : ℕ) → e < used_of (attribute_size ed) b (attributes_at b) s → Trusted ed b d (place_of (attribute_size ed) b (attributes_at b) s e)) seg r
    (λ e g. subst (λ (x : ℕ). Trusted ed b d (x + 8 + e * attribute_size ed)) p (h e (omega (arith, q, l))))
