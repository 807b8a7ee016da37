-- What is read at the place of the entry that bears a text. Assumes nothing.
use Prim.Native.Nat.{ℕ, ◌+◌, ◌*◌, ◌≤◌}
use native.Mathlib.Omega.{arith}
use mathlib.Core.Path.{◌≡◌, refl, ap, sym, ◌∙◌}
use mathlib.Core.List.{List}
use lib.ListN.{length}
use Rattle.verdict.proofs.Laws.{Clean}
use Rattle.text.specs.Text.{chars}
use Rattle.layout.specs.Table.{Table, TableLaid, entry_index, entry_segment, entry_element, entry_at, index_of, segment_of, element_of}
use Rattle.layout.proofs.Laws.{entry-fits}
use Rattle.strings.specs.Texts.{text_of}
use Rattle.strings.specs.inner.Held.{Here}
use Rattle.strings.specs.Order.{string_checks}
use Rattle.strings.proofs.Places.{index_at, segment-at, element-at}
use Rattle.lookup.specs.Lookup.{entry_of_text, index_of_text, address_of_text}
use Rattle.lookup.specs.Kinds.{told_in, tells_at}
use Rattle.lookup.specs.inner.PickedEntry.{PickedEntry}
use Rattle.lookup.specs.declared.Kind.{Kind}
use Rattle.lookup.specs.declared.first.Candidate.{Candidate}
use Rattle.lookup.specs.declared.Kind.TheVariants.{Name, Value}
use Rattle.lookup.specs.declared.Lookup.{Lookup}
use Rattle.lookup.specs.declared.Lookup.TheVariants.{Found, Collided, Absent}
use Rattle.lookup.proofs.Found.{told-some, entry_found_iff, entry_collided_iff, entry_absent_iff, index_collided_iff, index_absent_iff, address_collided_iff, address_absent_iff}

-- what is read of an entry, by kind
module _ (b : List ℕ) (e w : ℕ) {k : Kind} where
  pub tells_name : k ≡ Name → w ≡ entry_index b e → w ≡ tells_at k b e
  unfolding tells_at
  tells_name q h = rw q h

  pub tells_value : k ≡ Value → w ≡ entry_segment b e * 65536 + entry_element b e → w ≡ tells_at k b e
  unfolding tells_at
  tells_value q h = rw q h

-- an entry that bears a text tells what is told of the text
pub told_borne : (kind : Kind) (t : Table) (x : List ℕ) → Clean (string_checks t) → (k j w : ℕ) → Here t k j → text_of t k j ≡ x → w ≡ tells_at kind t.bytes (entry_at t k j)
    → Found w ≡ told_in kind t x
unfolding told_in tells_at index_of_text address_of_text
told_borne Name t x ok k j w h e p = ap Found (index_at t k j (entry_at t k j) w refl p) ∙ sym (told-some (index_of t) t x ok k j h e)
told_borne Value t x ok k j w h e p =
    let a = segment-at t k j (entry_at t k j) _ refl refl in
    let c = element-at t k j (entry_at t k j) _ refl refl in
    let z : w ≡ segment_of t k j * 65536 + element_of t k j = p ∙ cc in
    ap Found z ∙ sym (told-some (λ a c. segment_of t a c * 65536 + element_of t a c) t x ok k j h e)

-- compared where its text stands
pub told_there : (kind : Kind) (t : Table) (x : List ℕ) {n : ℕ} {c : Candidate} → Clean (string_checks t) → PickedEntry kind t n c → chars t.bytes c.text n ≡ x → Found c.result ≡ told_in kind t x
told_there kind t x ok s e = told_borne kind t x ok _ _ _ s.here (s.text ∙ e) s.result

module _ (t : Table) (x : List ℕ) (ok : Clean (string_checks t)) {r : Lookup} (q : r ≡ entry_of_text t x) where
  module _ (e : ℕ) (f : r ≡ Found e) where
    pub entry-inside : (most : ℕ) → TableLaid t most → e + 16 ≤ length t.bytes
    entry-inside most laid =
        let w = (entry_found_iff t x ok e).0 (sym q ∙ f) in
        omega (arith, w.2.2.1, entry-fits t laid w.0 w.2.0 w.1 w.2.1)

    -- by what is read of it
    pub entry-told : (k : Kind) (w : ℕ) → w ≡ tells_at k t.bytes e → Found w ≡ told_in k t x
    entry-told k w p =
        let g = (entry_found_iff t x ok e).0 (sym q ∙ f) in
        told_borne k t x ok g.0 g.2.0 w (record { bucket = g.1; entry = g.2.1 }) g.2.2.0 (p ∙ ap (tells_at k t.bytes) (sym g.2.2.1))

  -- not found: what is told of it does not depend on the kind
  module _ (n : ℕ) (f : r ≡ Collided n) where
    pub index-collided : Collided n ≡ index_of_text t x
    index-collided = sym ((index_collided_iff t x ok n).1 ((entry_collided_iff t x ok n).0 (sym q ∙ f)))

    pub address-collided : Collided n ≡ address_of_text t x
    address-collided = sym ((address_collided_iff t x ok n).1 ((entry_collided_iff t x ok n).0 (sym q ∙ f)))

  module _ (f : r ≡ Absent) where
    pub index-absent : Absent ≡ index_of_text t x
    index-absent = sym ((index_absent_iff t x ok).1 ((entry_absent_iff t x ok).0 (sym q ∙ f)))

    pub address-absent : Absent ≡ address_of_text t x
    address-absent = sym ((address_absent_iff t x ok).1 ((entry_absent_iff t x ok).0 (sym q ∙ f)))
