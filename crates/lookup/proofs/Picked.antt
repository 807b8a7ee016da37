-- An entry that is picked before its text is read. Assumes nothing.
use Prim.Native.Nat.{ℕ, ◌+◌, ◌-◌, ◌*◌, ◌≤◌}
use native.Mathlib.Omega.{arith}
use mathlib.Core.Path.{◌≡◌, refl, ap, ◌∙◌}
use mathlib.Core.List.{List}
use lib.ListN.{length}
use Rattle.verdict.proofs.Laws.{Clean}
use Rattle.region.specs.Region.{start_of, place_of, Resolves, Laid}
use Rattle.layout.specs.Table.{Table, TableLaid, entry_length, entry_segment, entry_element, entry_at, segment_of, element_of}
use Rattle.strings.specs.inner.Held.{Here}
use Rattle.strings.specs.Order.{string_checks}
use Rattle.strings.proofs.Places.{length_at, segment-at, element-at}
use Rattle.lookup.specs.Kinds.{tells_at}
use Rattle.lookup.specs.inner.PickedEntry.{PickedEntry}
use Rattle.lookup.specs.declared.Kind.{Kind}
use Rattle.lookup.proofs.Bucket.{entry-resolved, Standing, addressed, long-some}

-- the place of the address at e, as it is read
module _ (b : List ℕ) (r e s p : ℕ) (laid : Laid 2 b r) (h : Resolves 2 b r (entry_segment b e) (entry_element b e)) (a : s ≡ entry_segment b e) (q : p ≡ start_of 2 b r s) where
  started : p ≡ start_of 2 b r (entry_segment b e)
  started = q ∙ ap (start_of 2 b r) a

  pub place_in : (l : ℕ) → l ≡ entry_element b e → p + 8 + l * 2 ≤ length b
  place_in l d = omega (arith, started, d, h.el_in, laid.used _ h.seg_in, laid.fits _ h.seg_in)

  pub place_is : (l : ℕ) → l ≡ entry_element b e → p + 8 + l * 2 ≡ place_of 2 b r (entry_segment b e) (entry_element b e)
  unfolding place_of
  place_is l d = omega (arith, started, d)

-- entry j of bucket k, which stands at e
module _ (t : Table) (k j e : ℕ) (ok : Clean (string_checks t)) (here : Here t k j) (q : e ≡ entry_at t k j) where
  pub resolved-at : Resolves 2 t.bytes t.at (entry_segment t.bytes e) (entry_element t.bytes e)
  unfolding segment_of element_of
  resolved-at = rw q (entry-resolved t k j ok here)

  module _ (w : ℕ) (d : w ≡ entry_length t.bytes e) where
    pub long-read : 1 ≤ w
    long-read = long-some t k j w ok here (length_at t k j e w q d)

    module _ {most : ℕ} (laid : TableLaid t most) (x n : ℕ) (p : x ≡ place_of 2 t.bytes t.at (entry_segment t.bytes e) (entry_element t.bytes e)) (f : w - 1 ≡ n) where
      pub stands : Standing t k j x n
      stands =
          let a = segment-at t k j e _ q refl in
          let c = element-at t k j e _ q refl in
          addressed t k j x w n ok laid here (p ∙ cc) (length_at t k j e w q d) (omega (arith, long-read))

      pub picked : (kind : Kind) (y v : ℕ) → v ≡ tells_at kind t.bytes e → PickedEntry kind t n (record { text = x; end = y; result = v })
      picked kind y v g = record {
        bucket = k;
        entry = j;
        here = here;
        fits = omega (arith, stands.ends);
        text = stands.text;
        result = g ∙ ap (tells_at kind t.bytes) q;
      }
