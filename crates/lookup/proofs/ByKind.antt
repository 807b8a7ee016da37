-- A lookup of either kind: what it tells, and that this has 32 bits. Assumes nothing.
use Prim.Native.Nat.{ℕ, ◌^◌, ◌<◌}
use native.Mathlib.Omega.{arith}
use mathlib.Core.Path.{◌≡◌, refl, sym, ap, ◌∙◌}
use mathlib.Core.List.{List}
use lib.ListN.{length}
use Rattle.verdict.proofs.Laws.{Clean}
use Rattle.hash.specs.Hash.{hash_text, bucket_of}
use Rattle.layout.specs.Table.{Table, TableLaid}
use Rattle.strings.specs.Order.{string_checks}
use Rattle.strings.proofs.Accepted.{strings_parts, all_good}
use Rattle.lookup.specs.Collisions.{hash_count}
use Rattle.lookup.specs.Cases.{Collides}
use Rattle.lookup.specs.Lookup.{entry_of_text, index_of_text, address_of_text}
use Rattle.lookup.specs.Kinds.{told_in, kind_of, told_number}
use Rattle.lookup.specs.declared.Kind.{Kind}
use Rattle.lookup.specs.declared.Kind.TheVariants.{Name, Value}
use Rattle.lookup.specs.declared.Lookup.{Lookup}
use Rattle.lookup.specs.declared.Lookup.TheVariants.{Found, Collided, Absent}
use Rattle.lookup.proofs.Counts.{count-within}
use Rattle.lookup.proofs.Found.{index_found_iff, index_collided_iff, address_found_iff, address_collided_iff}
use Rattle.lookup.proofs.Told.{index-collided, index-absent, address-collided, address-absent}

-- no entry bears the text, whether some have its hash or not
pub other_told : (k : Kind) (t : Table) (x : List ℕ) → Clean (string_checks t) → (r : Lookup) → r ≡ entry_of_text t x → ((e : ℕ) → r ≡ Found e → ⊥) → r ≡ told_in k t x
unfolding told_in
other_told k t x ok (Found e) q f = absurd (f e refl)
other_told Name t x ok (Collided n) q f = index-collided t x ok q n refl
other_told Value t x ok (Collided n) q f = address-collided t x ok q n refl
other_told Name t x ok Absent q f = index-absent t x ok q refl
other_told Value t x ok Absent q f = address-absent t x ok q refl

pub kind-low : (l : Lookup) → kind_of l < 2 ^ 32
unfolding kind_of
kind-low (Found n) = omega arith
kind-low Absent = omega arith
kind-low (Collided n) = omega arith

-- as many entries as one bucket has can have a hash
collided-low : (t : Table) (x : List ℕ) (n : ℕ) {most : ℕ} → Clean (string_checks t) → TableLaid t most → length t.bytes < 2 ^ 32 → Collides t x
    → n ≡ hash_count t (hash_text x) → n < 2 ^ 32
collided-low t x n ok laid small c e =
    let w = c.hashed in
    let g = (all_good t (strings_parts t ok).0 w.0 w.2.0 w.1 w.2.1).placed.bucket in
    let l = count-within t (strings_parts t ok).0 (hash_text x) w.0 w.1 (ap (bucket_of t.buckets) (sym w.2.2) ∙ g) in
    omega (arith, e, l, laid.bucket w.0 w.1)

-- an index is below the address count, and both halves of an address resolve in a region
pub number-low : (k : Kind) (t : Table) (x : List ℕ) {most : ℕ} → Clean (string_checks t) → TableLaid t most → most < 2 ^ 32 → length t.bytes < 2 ^ 32 → told_number (told_in k t x) < 2 ^ 32
unfolding told_in told_number
number-low Name t x ok laid h small = go (index_of_text t x) refl
  where
    go : (l : Lookup) → index_of_text t x ≡ l → told_number l < 2 ^ 32
    go (Found i) e =
        let w = (index_found_iff t x ok i).0 e in
        omega (arith, (all_good t (strings_parts t ok).0 w.0 w.2.0 w.1 w.2.1).indexed.high, w.2.2.1, laid.few)
    go (Collided n) e = let w = (index_collided_iff t x ok n).0 e in collided-low t x n ok laid small w.0 w.1
    go Absent e = omega arith
number-low Value t x ok laid h small = go (address_of_text t x) refl
  where
    go : (l : Lookup) → address_of_text t x ≡ l → told_number l < 2 ^ 32
    go (Found a) e =
        let w = (address_found_iff t x ok a).0 e in
        let g = (all_good t (strings_parts t ok).0 w.0 w.2.0 w.1 w.2.1).resolved in
        omega (arith, w.2.2.1, g.seg_in, g.el_in, laid.characters.few, laid.characters.used _ g.seg_in, laid.characters.full _ g.seg_in)
    go (Collided n) e = let w = (address_collided_iff t x ok n).0 e in collided-low t x n ok laid small w.0 w.1
    go Absent e = omega arith
