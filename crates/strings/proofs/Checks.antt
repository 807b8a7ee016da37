-- Refusals 7 to 12 of an entry, as the code tells them. Assumes nothing.
use Prim.Native.Nat.{ℕ, ◌+◌, ◌-◌, ◌≤◌, ◌<◌}
use native.Mathlib.Nat.{le_refl}
use native.Mathlib.Omega.{arith}
use mathlib.Core.Path.{◌≡◌, ap, sym, ◌∙◌}
use mathlib.Core.Bool.{true, false}
use mathlib.Core.List.{List, [], ◌∷◌}
use lib.ListN.{length}
use lib.Dec.{eqb, leb}
use Rattle.verdict.specs.Checks.{Check, check, first_fault}
use Rattle.verdict.specs.inner.Tells.{Tells}
use Rattle.verdict.specs.Verdict.{Verdict}
use Rattle.verdict.specs.Verdict.{Accepted, Refused}
use Rattle.verdict.proofs.Laws.{pass, stop, tells_yes, tells_no, tells_eqb, tells_leb}
use Rattle.hash.specs.Hash.{hash_text, bucket_of}
use Rattle.text.specs.inner.Measure.{Measured}
use Rattle.text.specs.declared.Extent.{Extent}
use Rattle.text.proofs.Laws.{text_length_le}
use Rattle.layout.specs.Table.{Table, entry_at, hash_of, length_of, index_of, segment_of, element_of, count, listed_segment, listed_element}
use Rattle.strings.specs.Texts.{text_of}
use Rattle.strings.specs.Rules.{Resolved, Sized, Hashed, Placed, Indexed, Duplicate}
use Rattle.strings.specs.Decisions.{placed?, indexed?, alone?}
use Rattle.strings.specs.inner.Held.{TextPasses}
use Rattle.strings.specs.Order.{entry_checks}
use Rattle.strings.proofs.Accepted.{entry_clean}
use Rattle.strings.proofs.Spots.{Spotted}

-- ---- 8 and 9: what is measured at the entry's spot

module _ (t : Table) (k j p n : ℕ) (m : Extent) (f : Measured t.bytes p n m) (w : Spotted t (segment_of t k j) (element_of t k j) p n) where
  pub measured_few : m.length ≤ n
  measured_few = omega (arith, f.long, text_length_le t.bytes p n)

  pub not-long : (l : ℕ) → l ≡ length_of t k j → (l ≡ m.length + 1 → ⊥) → Sized t k j → ⊥
  unfolding text_of
  not-long l q d r = d (omega (arith, q, r, f.long, ap length w.text))

  pub not-hashed : (h : ℕ) → h ≡ hash_of t k j → (h ≡ m.hash → ⊥) → Hashed t k j → ⊥
  unfolding text_of
  not-hashed h q d r = d (q ∙ r ∙ ap hash_text (sym w.text) ∙ sym f.hashed)

  module _ (l : ℕ) (q : l ≡ length_of t k j) (d : l ≡ m.length + 1) where
    pub sized : Sized t k j
    unfolding text_of
    sized = omega (arith, q, d, f.long, ap length w.text)

    pub text-right : (h : ℕ) → h ≡ hash_of t k j → h ≡ m.hash → TextPasses t k j
    unfolding text_of
    text-right h p g = record { resolved = w.resolved; sized = sized; hashed = sym p ∙ g ∙ f.hashed ∙ ap hash_text w.text }

module _ (t : Table) (k j : ℕ) where
  -- ---- 10

  module _ (h : ℕ) (q : h ≡ hash_of t k j) (b : ℕ) (e : b ≡ bucket_of t.buckets h) where
    in_bucket : b ≡ k → bucket_of t.buckets (hash_of t k j) ≡ k
    in_bucket d = ap (bucket_of t.buckets) (sym q) ∙ sym e ∙ d

    pub placed_elsewhere : (b ≡ k → ⊥) → Tells (Placed t k j) false
    placed_elsewhere d = tells_no (λ r. d (e ∙ ap (bucket_of t.buckets) q ∙ r.bucket))

    pub placed_first : b ≡ k → j ≡ 0 → Tells (Placed t k j) true
    placed_first d z =
        let y : j - 1 ≡ j = omega arith in
        tells_yes (record { bucket = in_bucket d; ascends = rw y (le_refl (hash_of t k j)) })

    pub placed-later : b ≡ k → (g : ℕ) → g ≡ hash_of t k (j - 1) → Tells (Placed t k j) (leb g h)
    placed-later d g p = tells_leb g h
        (λ l. record { bucket = in_bucket d; ascends = omega (arith, l, p, q) })
        (λ r. omega (arith, r.ascends, p, q))

  -- ---- 11

  module _ (i : ℕ) (q : i ≡ index_of t k j) where
    pub indexed-zero : i ≡ 0 → Tells (Indexed t k j) false
    indexed-zero z = tells_no (λ r. omega (arith, r.low, q))

    pub indexed-high : (n : ℕ) → n ≡ count t → n ≤ i → Tells (Indexed t k j) false
    indexed-high n p l = tells_no (λ r. omega (arith, r.high, q, p))

    module _ (a c : ℕ) (pa : a ≡ listed_segment t i) (pc : c ≡ segment_of t k j) where
      pub indexed-segment : (a ≡ c → ⊥) → Tells (Indexed t k j) false
      indexed-segment d = tells_no (λ r. d (pa ∙ ap (listed_segment t) q ∙ r.segment ∙ sym pc))

      pub indexed-element : a ≡ c → (n : ℕ) → n ≡ count t → (i ≡ 0 → ⊥) → i < n → (x y : ℕ) → x ≡ listed_element t i → y ≡ element_of t k j
          → Tells (Indexed t k j) (eqb x y)
      indexed-element d n p z l x y px py = tells_eqb x y
          (λ e. record {
            low = omega (arith, z, q);
            high = omega (arith, q, p);
            segment = ap (listed_segment t) (sym q) ∙ sym pa ∙ d ∙ pc;
            element = ap (listed_element t) (sym q) ∙ sym px ∙ e ∙ py;
          })
          (λ r. px ∙ ap (listed_element t) q ∙ r.element ∙ sym py)

  -- ---- the verdict on the entry, for each way out

  -- the checks behind those of its text
  abbrev order_checks : List Check
  order_checks =
      check 10 (entry_at t k j) (Placed t k j) (placed? t k j)
      ∷ check 11 (entry_at t k j) (Indexed t k j) (indexed? t k j)
      ∷ check 12 (entry_at t k j) (¬ Duplicate t k j) (alone? t k j)
      ∷ []

  module _ (e : ℕ) (q : e ≡ entry_at t k j) where
    at_entry : {n : ℕ} {v : Verdict} → v ≡ Refused n (entry_at t k j) → Refused n e ≡ v
    at_entry {n} p = ap (Refused n) q ∙ sym p

    pub refused_7 : (Resolved t k j → ⊥) → Refused 7 e ≡ first_fault (entry_checks t k j)
    unfolding entry_checks
    refused_7 f = at_entry (stop _ _ _ _ _ f)

    pub refused_8 : Resolved t k j → (Sized t k j → ⊥) → Refused 8 e ≡ first_fault (entry_checks t k j)
    unfolding entry_checks
    refused_8 a f = at_entry (pass _ _ _ _ _ a ∙ stop _ _ _ _ _ f)

    pub refused_9 : Resolved t k j → Sized t k j → (Hashed t k j → ⊥) → Refused 9 e ≡ first_fault (entry_checks t k j)
    unfolding entry_checks
    refused_9 a b f = at_entry (pass _ _ _ _ _ a ∙ pass _ _ _ _ _ b ∙ stop _ _ _ _ _ f)

    module _ (r : TextPasses t k j) where
      -- where the text is right, the checks behind it tell
      behind-text : first_fault (entry_checks t k j) ≡ first_fault order_checks
      unfolding entry_checks
      behind-text = pass _ _ _ _ _ r.resolved ∙ pass _ _ _ _ _ r.sized ∙ pass _ _ _ _ _ r.hashed

      pub refused_10 : (Placed t k j → ⊥) → Refused 10 e ≡ first_fault (entry_checks t k j)
      refused_10 f = at_entry (behind-text ∙ stop _ _ _ _ _ f)

      pub refused_11 : Placed t k j → (Indexed t k j → ⊥) → Refused 11 e ≡ first_fault (entry_checks t k j)
      refused_11 a f = at_entry (behind-text ∙ pass _ _ _ _ _ a ∙ stop _ _ _ _ _ f)

      pub refused_12 : Placed t k j → Indexed t k j → Duplicate t k j → Refused 12 e ≡ first_fault (entry_checks t k j)
      refused_12 a b w = at_entry (behind-text ∙ pass _ _ _ _ _ a ∙ pass _ _ _ _ _ b ∙ stop _ _ _ _ _ (λ f. f w))

  pub entry_passes : TextPasses t k j → Placed t k j → Indexed t k j → ¬ Duplicate t k j → Accepted ≡ first_fault (entry_checks t k j)
  entry_passes r a b f = sym (entry_clean t k j (record {
    resolved = r.resolved;
    sized = r.sized;
    hashed = r.hashed;
    placed = a;
    indexed = b;
    alone = f;
  }))
