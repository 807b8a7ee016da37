-- The addresses that the outline reads resolve: that of a name index, and that of a text value. Assumes nothing.
use Prim.Native.Nat.{ℕ, ◌+◌, ◌*◌, ◌≤◌, ◌<◌}
use native.Mathlib.Omega.{arith}
use mathlib.Core.Path.{◌≡◌, ap, sym, subst, ◌∙◌}
use mathlib.Core.Bool.{Bool, true, false, cond}
use mathlib.Core.Logic.{⊎_elim}
use mathlib.Core.List.{List}
use borrow.Author.Tests.{eq-eqb, ne_eqb}
use lib.Dec.{eqb}
use lib.IntN.{ℤ}
use lib.ListN.{length}
use Rattle.le.specs.Floats.{single_of}
use Rattle.le.specs.declared.Float32.{Float32}
use Rattle.le.specs.Le.{u16_at}
use Rattle.words.specs.Words.{type_of, extended_of}
use Rattle.region.specs.Region.{Resolves}
use Rattle.region.specs.inner.Samples.{Mapped, Starts}
use Rattle.region.specs.declared.Region.{Region}
use Rattle.text.specs.Text.{text_in, text_at}
use Rattle.layout.specs.Table.{table, count, position_at, listed_segment, listed_element}
use Rattle.layout.specs.Layout.{values, names}
use Rattle.layout.specs.inner.View.{PlacesFit}
use Rattle.layout.specs.declared.Places.{Places}
use Rattle.layout.specs.declared.Edition.{Edition}
use Rattle.layout.proofs.Laws.{position-fits}
use Rattle.layout.proofs.Seen.{own_mapped}
use Rattle.strings.specs.Texts.{text_to, listed_text, spot_at}
use Rattle.strings.specs.declared.spot.Spot.{Spot}
use Rattle.strings.specs.Texts.{At}
use Rattle.strings.proofs.Spots.{spot_out, spot-text}
use Rattle.strings.proofs.Accepted.{strings_iff}
use Rattle.keys.specs.Names.{name_count, name_text}
use Rattle.keys.proofs.Only.{position_resolves}
use Rattle.nodes.specs.Attribute.{type_word, value_word, text_segment, text_element, Typed, signed_of, value_of}
use Rattle.nodes.specs.Rules.{TextRule}
use Rattle.nodes.specs.declared.value.Value.TheVariants.{Whole, Truth, Float, Text}
use Rattle.accept.specs.Rules.{FileRules}
use Rattle.outline.specs.inner.Ready.{ValueStarts, NameStarts, AttributeReady, TextHeld}
use Rattle.std.specs.Prelude.{Option, IsSome}
use Rattle.outline.proofs.Parts.{is_there}

-- the code's region is that of a table, where an address resolves
own : {b : List ℕ} {at seg el : ℕ} {r : Region} {xs : List ℕ} → Mapped 2 b at r → Starts 2 b at r.shift xs → Resolves 2 b at seg el
    → TextHeld b r xs seg el
own {b} {at} {seg} {el} {r} {xs} m s h = record {
  mapped = own_mapped m;
  sampled = subst (λ (a : ℕ). Starts 2 b a r.shift xs) (sym m.at_is) s;
  resolved = subst (λ (a : ℕ). Resolves 2 b a seg el) (sym m.at_is) h;
}

-- ---- values that are texts

no_whole : {z : ℤ} {s e : ℕ} → Whole z ≡ Text s e → ⊥
no_whole q = let z : ◌≡◌ {A = ℕ} 0 1 = cc in omega arith

no_truth : {t : Bool} {s e : ℕ} → Truth t ≡ Text s e → ⊥
no_truth q = let z : ◌≡◌ {A = ℕ} 0 1 = cc in omega arith

no_float : {f : Float32} {s e : ℕ} → Float f ≡ Text s e → ⊥
no_float q = let z : ◌≡◌ {A = ℕ} 0 1 = cc in omega arith

module _ (b : List ℕ) (q : ℕ) {seg el : ℕ} (v : value_of b q ≡ Text seg el) where
  not-one : type_of (type_word b q) ≡ 1 → ⊥
  unfolding value_of
  not-one z = go (eqb (extended_of (type_word b q)) 0) (sym (rw (eq-eqb (type_of (type_word b q)) 1 z)) ∙ v)
    where
      go : (t : Bool) → cond t (Whole (signed_of (value_word b q))) (Truth (eqb (value_word b q) 1)) ≡ Text seg el → ⊥
      go true h = no_whole h
      go false h = no_truth h

  not-two : type_of (type_word b q) ≡ 2 → ⊥
  unfolding value_of
  not-two z =
      no_float {f = single_of (value_word b q)} (sym (rw (ne_eqb (type_of (type_word b q)) 1 (λ y. omega arith), eq-eqb (type_of (type_word b q)) 2 z)) ∙ v)

  only_text : Typed b q → type_of (type_word b q) ≡ 3
  unfolding Typed
  only_text t = ⊎_elim (λ h. absurd (not-one h.0)) (⊎_elim (λ h. absurd (not-two h.0)) (λ h. h)) t

  text_of : (seg ≡ text_segment b q) × (el ≡ text_element b q)
  unfolding value_of
  text_of =
      let e : Text (text_segment b q) (text_element b q) ≡ Text seg el =
      sym (rw (ne_eqb (type_of (type_word b q)) 1 not-one, ne_eqb (type_of (type_word b q)) 2 not-two)) ∙ v in
      ((cc), (cc))

module _ {ed : Edition} {b : List ℕ} (g : FileRules ed b) {p : Places} (w : PlacesFit ed b p) where
  -- ---- a name index

  module _ {i x : ℕ} (low : 1 ≤ i) (high : i ≤ name_count ed b) (e : x ≡ p.name_list + 4 * i) where
    below : i < count (names ed b)
    unfolding name_count
    below = omega arith

    place : x ≡ position_at (names ed b) i
    unfolding position_at
    place = e ∙ ap (λ (y : ℕ). y + 4 * i) w.name_list

    pub name_in : x + 4 ≤ length b
    unfolding names
    name_in = omega (arith, place, position-fits (names ed b) g.laid.names i below)

    module _ {seg el : ℕ} (s : seg ≡ u16_at b x) (l : el ≡ u16_at b (x + 2)) where
      segment_is : seg ≡ listed_segment (names ed b) i
      unfolding listed_segment names
      segment_is = s ∙ ap (u16_at b) place

      element_is : el ≡ listed_element (names ed b) i
      unfolding listed_element names
      element_is = l ∙ ap (λ (y : ℕ). u16_at b (y + 2)) place

      resolves : Resolves 2 b (names ed b).at seg el
      unfolding names
      resolves = rw (segment_is, element_is) (position_resolves (names ed b) ((strings_iff (names ed b)).1 g.name-table) i low below)

      pub name_held : {xs : List ℕ} → NameStarts ed b p xs → TextHeld b p.name_chars xs seg el
      name_held h = own w.name_chars h resolves

      pub name-text : text_at b p.name_chars.at seg el ≡ name_text ed b i
      unfolding name_text listed_text text_to names
      name-text =
          ap (λ (y : ℕ). text_at b y seg el) w.name_chars.at_is
          ∙ ap (λ (y : ℕ). text_at b (names ed b).at y el) segment_is ∙ ap (text_at b (names ed b).at (listed_segment (names ed b) i)) element_is

  -- ---- a text value

  module _ {q seg el : ℕ} (a : AttributeReady ed b q) (v : value_of b q ≡ Text seg el) where
    text-rule : TextRule ed b q
    text-rule = a.text (only_text b q v a.typed)

    value_resolves : Resolves 2 b (values ed b).at seg el
    unfolding values
    value_resolves =
        let t = text-rule.entry in
        let k = t.2 in
        let z = text_of b q v in
        rw (z.0, z.1, ← k.2.0, ← k.2.1) (g.value-table.entry _ _ t.1 k.1).resolved

    pub value_held : {xs : List ℕ} → ValueStarts ed b p xs → TextHeld b p.value_chars xs seg el
    value_held h = own w.value_chars h value_resolves

    pub value-text : text_at b p.value_chars.at seg el ≡ text_to (values ed b) seg el
    unfolding text_to values
    value-text = ap (λ (y : ℕ). text_at b y seg el) w.value_chars.at_is

-- ---- the spot of an address that resolves

module _ {b : List ℕ} {r : Region} {xs : List ℕ} {seg el : ℕ} (t : TextHeld b r xs seg el) where
  pub small-element : el < 65536
  small-element =
      let h = t.resolved.seg_in in
      omega (arith, t.resolved.el_in, t.mapped.laid.used seg h, t.mapped.laid.full seg h)

  module _ {s : Option Spot} (f : s ≡ spot_at b r.at seg el) where
    pub is_found : IsSome s
    is_found = is_there s (λ e. spot_out b r.at seg el (sym f ∙ e) t.resolved)

    pub found_at : {q n : ℕ} → s ≡ At q n → (q + 2 * n ≤ length b) × (text_in b q n ≡ text_at b r.at seg el)
    unfolding text_to
    found_at e =
        let w = spot-text (table b r.at 0) seg el t.mapped.laid (sym f ∙ e) in
        (w.fits, w.text)
