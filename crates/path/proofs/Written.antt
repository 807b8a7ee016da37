-- Encoded lists put over a buffer one after the other, four bytes for each node. Assumes nothing.
use mathlib.Core.Path.{◌≡◌, refl, sym, ap, ◌∙◌}
use mathlib.Core.List.{List, [], ◌∷◌, ◌++◌}
use Prim.Native.Nat.{ℕ, ◌+◌, ◌*◌, ◌/◌, ◌≤◌, ◌<◌}
use native.Mathlib.Omega.{arith}
use lib.ListN.{length, length-append}
use Rattle.laws.specs.inner.Lists.{splice}
use Rattle.laws.proofs.Splice.{splice_nil, splice-length, splice-append}
use Rattle.le.specs.Le.{le4}
use Rattle.path.specs.Listing.{encode}
use Rattle.path.specs.inner.Written.{Wrote}

encode-append : (s t : List ℕ) → encode (s ++ t) ≡ encode s ++ encode t
unfolding encode le4
encode-append [] t = refl
encode-append (x ∷ s) t = rw (encode-append s t)

pub length-encode : (s : List ℕ) → length (encode s) ≡ 4 * length s
unfolding encode le4
length-encode [] = refl
length-encode (x ∷ s) = let r = length-encode s in omega arith

module _ (d : List ℕ) (k : ℕ) where
  pub wrote_none : Wrote d k [] k d
  unfolding encode
  wrote_none = record { next_is = omega arith; size = refl; bytes_are = λ h. sym (splice_nil d (4 * k)) }

  -- one node, where it fits
  pub wrote_one : (a : ℕ) {d' : List ℕ} → k < length d / 4 → d' ≡ splice d (4 * k) (le4 a) → Wrote d k (a ∷ []) (k + 1) d'
  unfolding encode le4
  wrote_one a h e = record { next_is = refl; size = ap length e ∙ splice-length d (4 * k) (le4 a) (omega arith); bytes_are = λ g. e }

  pub wrote_not : (a : ℕ) {d' : List ℕ} → length d / 4 ≤ k → d' ≡ d → Wrote d k (a ∷ []) (k + 1) d'
  wrote_not a h e = record { next_is = refl; size = ap length e; bytes_are = λ g. absurd (omega arith) }

module _ {d d' : List ℕ} {k n : ℕ} {l : List ℕ} (w : Wrote d k l n d') where
  -- other names of the same
  pub wrote_same : {l' : List ℕ} {n' : ℕ} {d'' : List ℕ} → l' ≡ l → n' ≡ n → d'' ≡ d' → Wrote d k l' n' d''
  wrote_same q e f = rw (q, e, f) w

  -- more, after it
  pub wrote_then : {m : List ℕ} {n' : ℕ} {d'' : List ℕ} → Wrote d' n m n' d'' → Wrote d k (l ++ m) n' d''
  wrote_then {m} v = record {
    next_is = omega (arith, v.next_is, w.next_is, length-append l m);
    size = v.size ∙ w.size;
    bytes_are = λ h.
        let g : 4 * n ≤ length d = omega (arith, v.next_is) in
        let p : 4 * n ≡ 4 * k + length (encode l) = omega (arith, w.next_is, length-encode l) in
        v.bytes_are (omega (arith, w.size))
        ∙ rw (w.bytes_are g, p) (sym (splice-append d (4 * k) (encode l) (encode m) (omega arith)))
        ∙ ap (splice d (4 * k)) (sym (encode-append l m));
  }
