-- Laws of spot_at: it answers exactly where an address resolves. Assumes nothing.
use Prim.Native.Nat.{ℕ, ◌+◌, ◌-◌, ◌*◌, ◌≤◌, ◌<◌}
use native.Mathlib.Omega.{arith}
use mathlib.Core.Path.{◌≡◌, refl, ap, sym, ◌∙◌}
use mathlib.Core.Logic.{⊎_elim}
use mathlib.Core.Bool.{Bool}
use mathlib.Core.List.{List}
use lib.ListN.{length}
use borrow.Author.Tests.{lt-ltb, le-ltb}
use Rattle.laws.proofs.Order.{le_or_lt}
use Rattle.verdict.specs.inner.Tells.{Tells}
use Rattle.le.specs.Le.{u32_at}
use Rattle.region.specs.Region.{count_of, start_of, used_of, place_of, end_of, Resolves, Laid}
use Rattle.region.specs.inner.Samples.{Mapped}
use Rattle.region.specs.Decisions.{resolves?}
use Rattle.region.specs.declared.Region.{Region}
use Rattle.text.specs.Text.{room_at, text_in, text_at}
use Rattle.text.proofs.Laws.{room-some, room_fits, room_within}
use Rattle.layout.specs.Table.{Table, entry_segment, entry_element, entry_at, segment_of, element_of}
use Rattle.strings.specs.Texts.{spot_at, text_to}
use Rattle.strings.specs.Rules.{Resolved}
use Rattle.strings.proofs.Places.{segment-at, element-at}
use Rattle.strings.specs.declared.spot.Spot.{Spot}
use Rattle.strings.specs.Texts.{At, Nowhere}
use Rattle.std.specs.Prelude.{Option, Some}

no_spot : {p n : ℕ} → ◌≡◌ {A = Option Spot} (At p n) Nowhere → ⊥
no_spot z = let e : ◌≡◌ {A = ℕ} 0 1 = cc in omega arith

spot_one : {x y : Spot} → ◌≡◌ {A = Option Spot} (Some x) (Some y) → x ≡ y
spot_one e = cc

module _ (b : List ℕ) (r seg el : ℕ) where
  pub spot_yes : seg < count_of b r → el < used_of 2 b r seg → spot_at b r seg el ≡ At (place_of 2 b r seg el) (room_at b r seg el)
  unfolding spot_at
  spot_yes h l = rw (lt-ltb seg (count_of b r) h, lt-ltb el (used_of 2 b r seg) l)

  pub spot_past : count_of b r ≤ seg → spot_at b r seg el ≡ Nowhere
  unfolding spot_at
  spot_past h = rw (le-ltb seg (count_of b r) h)

  pub spot_unused : seg < count_of b r → used_of 2 b r seg ≤ el → spot_at b r seg el ≡ Nowhere
  unfolding spot_at
  spot_unused h l = rw (lt-ltb seg (count_of b r) h, le-ltb el (used_of 2 b r seg) l)

  -- a spot tells that the address resolves; none, that it does not
  pub spot_out : spot_at b r seg el ≡ Nowhere → Resolves 2 b r seg el → ⊥
  spot_out q h = no_spot (sym (spot_yes h.seg_in h.el_in) ∙ q)

  pub spot_in : {p n : ℕ} → spot_at b r seg el ≡ At p n → Resolves 2 b r seg el × (p ≡ place_of 2 b r seg el) × (n ≡ room_at b r seg el)
  spot_in {p} {n} q = go (resolves? 2 b r seg el)
    where
      nowhere : (Resolves 2 b r seg el → ⊥) → spot_at b r seg el ≡ Nowhere
      nowhere f =
          ⊎_elim spot_past
          (λ h. ⊎_elim (spot_unused h) (λ l. absurd (f (record { seg_in = h; el_in = l }))) (le_or_lt (used_of 2 b r seg) el))
          (le_or_lt (count_of b r) seg)

      go : Dec (Resolves 2 b r seg el) → Resolves 2 b r seg el × (p ≡ place_of 2 b r seg el) × (n ≡ room_at b r seg el)
      go (yes h) = let e = spot_one (sym q ∙ spot_yes h.seg_in h.el_in) in (h, ap (λ (x : Spot). x.at) e, ap (λ (x : Spot). x.left) e)
      go (no f) = absurd (no_spot (sym q ∙ nowhere f))

-- a segment that the code has located, and its used count
module _ (b : List ℕ) (r : Region) (g : Mapped 2 b r.at r) (seg p : ℕ) (h : seg < r.count) (q : p ≡ start_of 2 b r.at seg) where
  pub segment_in : p + 8 ≤ length b
  segment_in = omega (arith, g.laid.fits seg (omega (arith, g.count_is)))

  module _ (u : ℕ) (e : u ≡ u32_at b (p + 4)) where
    used_is : u ≡ used_of 2 b r.at seg
    unfolding used_of
    used_is = e ∙ ap (λ (x : ℕ). u32_at b (x + 4)) q

    pub used_in : p + 8 + 2 * u ≤ length b
    used_in =
        let l : seg < count_of b r.at = omega (arith, g.count_is) in
        omega (arith, used_is, g.laid.used seg l, g.laid.fits seg l)

    pub spot_unread : (el : ℕ) → u ≤ el → Nowhere ≡ spot_at b r.at seg el
    spot_unread el l = sym (spot_unused b r.at seg el (omega (arith, g.count_is)) (omega (arith, used_is)))

    pub spot-here : (el : ℕ) → el < u → At (p + 8 + el * 2) (u - el) ≡ spot_at b r.at seg el
    unfolding place_of room_at
    spot-here el l =
        ap (λ (x : ℕ). At (x + 8 + el * 2) (u - el)) q ∙ ap (λ (x : ℕ). At (start_of 2 b r.at seg + 8 + el * 2) (x - el)) used_is
        ∙ sym (spot_yes b r.at seg el (omega (arith, g.count_is)) (omega (arith, used_is)))

-- what a spot tells: the text of the address starts there, with so many characters left
pub record Spotted (t : Table) (seg el p n : ℕ) : Type 0 where
  pub resolved : Resolves 2 t.bytes t.at seg el
  pub text : text_in t.bytes p n ≡ text_to t seg el
  pub some : 0 < n
  pub past : 8 ≤ p
  pub fits : p + 2 * n ≤ length t.bytes
  pub within : p + 2 * n ≤ end_of 2 t.bytes t.at

pub spot-text : (t : Table) (seg el : ℕ) {p n : ℕ} → Laid 2 t.bytes t.at → spot_at t.bytes t.at seg el ≡ At p n → Spotted t seg el p n
unfolding text_to text_at place_of
spot-text t seg el {p} {n} laid e =
    let w = spot_in _ _ _ _ e in
    let l = room_fits t.bytes t.at _ _ laid w.0 in
    record {
      resolved = w.0;
      text = ap (λ (x : ℕ). text_in t.bytes x n) w.1 ∙ ap (text_in t.bytes _) w.2;
      some = omega (arith, room-some t.bytes t.at _ _ w.0, w.2);
      past = omega (arith, w.1);
      fits = omega (arith, w.1, w.2);
      within = omega (arith, w.1, w.2, room_within t.bytes t.at _ _ laid w.0);
    }

-- two texts, compared at their spots
pub same-texts : (t : Table) (s e p m u f q n : ℕ) {r : Bool} → Spotted t s e p m → Spotted t u f q n
    → Tells (text_in t.bytes p m ≡ text_in t.bytes q n) r → Tells (text_to t s e ≡ text_to t u f) r
same-texts t s e p m u f q n v w g = record {
  so = λ z. sym v.text ∙ g.so z ∙ w.text;
  not = λ z y. g.not z (v.text ∙ y ∙ sym w.text);
}

-- the spot of an entry, found by the address that stands in it
module _ (t : Table) (k j e : ℕ) {r : Option Spot} (q : e ≡ entry_at t k j)
    (f : r ≡ spot_at t.bytes t.at (entry_segment t.bytes e) (entry_element t.bytes e)) where
  pub found : spot_at t.bytes t.at (segment_of t k j) (element_of t k j) ≡ r
  found =
      let x = segment-at t k j e _ q refl in
      let y = element-at t k j e _ q refl in cc

  pub unspotted : r ≡ Nowhere → Resolved t k j → ⊥
  unspotted g h = spot_out _ _ _ _ (found ∙ g) h

  pub spotted : Laid 2 t.bytes t.at → {p n : ℕ} → r ≡ At p n → Spotted t (segment_of t k j) (element_of t k j) p n
  spotted laid g = spot-text t _ _ laid (found ∙ g)
