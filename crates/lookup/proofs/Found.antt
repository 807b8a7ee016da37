-- Demand 2 of the lookups: a text is found exactly when an entry bears that same text, and what is told is that entry's; collided exactly
-- when it collides, and absent otherwise. Assumes nothing.
use Prim.Native.Nat.{ℕ, zero, suc, ◌+◌, ◌*◌, ◌≤◌, ◌<◌}
use native.Mathlib.Omega.{arith}
use mathlib.Core.Path.{◌≡◌, refl, ap, sym, ◌∙◌}
use mathlib.Core.Logic.{◌↔◌, ◌⊎◌, inl, inr, ⊎_elim}
use mathlib.Core.List.{List}
use lib.ListN.{length, get_or}
use Rattle.laws.proofs.Order.{le_or_lt}
use Rattle.verdict.proofs.Laws.{Clean}
use Rattle.hash.specs.Hash.{hash_text}
use Rattle.text.specs.Text.{text_in, text_at, HoldsZero, holds_zero?}
use Rattle.text.proofs.Laws.{chars-at, text-chars, text-live}
use Rattle.layout.specs.Table.{Table, entry_at, index_of, segment_of, element_of, count}
use Rattle.strings.specs.Texts.{text_to, text_of, listed_text}
use Rattle.strings.specs.inner.Held.{Here}
use Rattle.strings.specs.Order.{all_entry_checks, string_checks}
use Rattle.strings.proofs.Accepted.{strings_parts, all_good, all-carried}
use Rattle.strings.proofs.Only.{one_entry, text-of-index}
use Rattle.lookup.specs.Collisions.{HasHash, hash_count}
use Rattle.lookup.specs.Lookup.{Borne, borne?, BorneWith, told_unborne, told_by, entry_of_text, index_of_text, address_of_text}
use Rattle.lookup.specs.Cases.{Collides, Missing, OneOfThree}
use Rattle.lookup.specs.declared.Lookup.{Lookup}
use Rattle.lookup.specs.declared.Lookup.TheVariants.{Found, Collided, Absent}
use Rattle.lookup.proofs.Counts.{counted_iff}

never : {i : ℕ} → ◌≡◌ {A = Lookup} (Found i) Absent → ⊥
never q = let z : ◌≡◌ {A = ℕ} 0 1 = cc in omega arith

not-collided : {i n : ℕ} → ◌≡◌ {A = Lookup} (Found i) (Collided n) → ⊥
not-collided q = let z : ◌≡◌ {A = ℕ} 0 1 = cc in omega arith

not-absent : {n : ℕ} → ◌≡◌ {A = Lookup} (Collided n) Absent → ⊥
not-absent q = let z : ◌≡◌ {A = ℕ} 0 1 = cc in omega arith

-- ---- a text that no entry bears

module _ (x : List ℕ) where
  unborne-found : (d : Dec (HoldsZero x)) (n : ℕ) {i : ℕ} → told_unborne x d n ≡ Found i → ⊥
  unfolding told_unborne
  unborne-found (yes z) n e = never (sym e)
  unborne-found (no f) zero e = never (sym e)
  unborne-found (no f) (suc n) e = not-collided (sym e)

  pub unborne-zero : (d : Dec (HoldsZero x)) (n : ℕ) → HoldsZero x → told_unborne x d n ≡ Absent
  unfolding told_unborne
  unborne-zero (yes z) n w = refl
  unborne-zero (no f) n w = absurd (f w)

  pub unborne-none : (d : Dec (HoldsZero x)) (n : ℕ) → n ≡ 0 → told_unborne x d n ≡ Absent
  unfolding told_unborne
  unborne-none (yes z) n e = refl
  unborne-none (no f) zero e = refl
  unborne-none (no f) (suc n) e = absurd (omega arith)

  pub unborne-some : (d : Dec (HoldsZero x)) (n : ℕ) → (HoldsZero x → ⊥) → 1 ≤ n → told_unborne x d n ≡ Collided n
  unfolding told_unborne
  unborne-some (yes z) n g l = absurd (g z)
  unborne-some (no f) zero g l = absurd (omega arith)
  unborne-some (no f) (suc n) g l = refl

  unborne-absent : (d : Dec (HoldsZero x)) (n : ℕ) → told_unborne x d n ≡ Absent → HoldsZero x ⊎ (n ≡ 0)
  unfolding told_unborne
  unborne-absent (yes z) n e = inl z
  unborne-absent (no f) zero e = inr refl
  unborne-absent (no f) (suc n) e = absurd (not-absent e)

  unborne-collided : (d : Dec (HoldsZero x)) (n : ℕ) {m : ℕ} → told_unborne x d n ≡ Collided m → (HoldsZero x → ⊥) × (1 ≤ n) × (m ≡ n)
  unfolding told_unborne
  unborne-collided (yes z) n e = absurd (not-absent (sym e))
  unborne-collided (no f) zero e = absurd (not-absent (sym e))
  unborne-collided (no f) (suc n) e = (f, omega arith, cc)

-- ---- whatever is told of the entry

module _ (f : ℕ → ℕ → ℕ) (t : Table) (x : List ℕ) where
  pub told_none : ¬ Borne t x → told_by f t x (borne? t x) ≡ told_unborne x (holds_zero? x) (hash_count t (hash_text x))
  unfolding told_by
  told_none g = go (borne? t x)
    where
      go : (d : Dec (Borne t x)) → told_by f t x d ≡ told_unborne x (holds_zero? x) (hash_count t (hash_text x))
      go (yes w) = absurd (g w)
      go (no n) = refl

  pub told-some : Clean (string_checks t) → (k j : ℕ) → Here t k j → text_of t k j ≡ x → told_by f t x (borne? t x) ≡ Found (f k j)
  unfolding told_by
  told-some ok k j h e = go (borne? t x)
    where
      go : (d : Dec (Borne t x)) → told_by f t x d ≡ Found (f k j)
      go (yes w) =
          let q = one_entry t (strings_parts t ok).0 w.0 w.2.0 k j w.1 w.2.1 h.bucket h.entry (w.2.2 ∙ sym e) in
          ap Found (ap (λ (m : ℕ). f m w.2.0) q.0 ∙ ap (f k) q.1)
      go (no n) = absurd (n (k, h.bucket, (j, h.entry, e)))

  pub told_inv : {i : ℕ} → told_by f t x (borne? t x) ≡ Found i → BorneWith f t x i
  unfolding told_by
  told_inv {i} e = go (borne? t x) e
    where
      go : (d : Dec (Borne t x)) → told_by f t x d ≡ Found i → BorneWith f t x i
      go (yes w) e = (w.0, w.1, (w.2.0, w.2.1, (w.2.2, (cc))))
      go (no n) e = absurd (unborne-found x (holds_zero? x) (hash_count t (hash_text x)) e)

  -- where it is not found, no entry bears it
  told-unborne : Clean (string_checks t) → ((i : ℕ) → told_by f t x (borne? t x) ≡ Found i → ⊥) → ¬ Borne t x
  told-unborne ok g w = g _ (told-some ok w.0 w.2.0 (record { bucket = w.1; entry = w.2.1 }) w.2.2)

  found_by : Clean (string_checks t) → (i : ℕ) → (told_by f t x (borne? t x) ≡ Found i) ↔ BorneWith f t x i
  found_by ok i = (
    told_inv,
    λ w. told-some ok w.0 w.2.0 (record { bucket = w.1; entry = w.2.1 }) w.2.2.0 ∙ ap Found w.2.2.1,
  )

  collided_by : Clean (string_checks t) → (n : ℕ) → (told_by f t x (borne? t x) ≡ Collided n) ↔ (Collides t x × (n ≡ hash_count t (hash_text x)))
  collided_by ok n = (onward, λ w. told_none w.0.unborne ∙ unborne-some x _ _ w.0.without-zero ((counted_iff t (hash_text x)).0 w.0.hashed) ∙ ap Collided (sym w.1))
    where
      onward : told_by f t x (borne? t x) ≡ Collided n → Collides t x × (n ≡ hash_count t (hash_text x))
      onward e =
          let u = told-unborne ok (λ i q. not-collided (sym q ∙ e)) in
          let w = unborne-collided x _ _ (sym (told_none u) ∙ e) in
          (record { unborne = u; without-zero = w.0; hashed = (counted_iff t (hash_text x)).1 w.1 }, w.2)

  absent_by : Clean (string_checks t) → (told_by f t x (borne? t x) ≡ Absent) ↔ Missing t x
  absent_by ok = (onward, λ w. told_none w.unborne ∙ ⊎_elim (λ z. unborne-zero x _ _ z) (λ g. unborne-none x _ _ (uncounted g)) w.unhashed)
    where
      uncounted : ¬ HasHash t (hash_text x) → hash_count t (hash_text x) ≡ 0
      uncounted g = ⊎_elim (λ l. absurd (g ((counted_iff t (hash_text x)).1 l))) (λ l. omega arith) (le_or_lt 1 (hash_count t (hash_text x)))

      onward : told_by f t x (borne? t x) ≡ Absent → Missing t x
      onward e =
          let u = told-unborne ok (λ i q. never (sym q ∙ e)) in
          record {
            unborne = u;
            unhashed = ⊎_elim (λ z. inl z) (λ c. inr (λ w. let l = (counted_iff t (hash_text x)).0 w in omega arith)) (unborne-absent x _ _ (sym (told_none u) ∙ e));
          }

-- the three cases exclude each other, and there is no fourth
pub one_of_three : (t : Table) (x : List ℕ) → OneOfThree (Borne t x) (Collides t x) (Missing t x)
one_of_three t x = record {
  one = by_borne (borne? t x);
  first-second = λ w c. c.unborne w;
  first-third = λ w m. m.unborne w;
  second-third = λ c m. ⊎_elim c.without-zero (λ g. g c.hashed) m.unhashed;
}
  where
    by_hash : ¬ Borne t x → ¬ HoldsZero x → (1 ≤ hash_count t (hash_text x)) ⊎ (hash_count t (hash_text x) < 1) → Borne t x ⊎ (Collides t x ⊎ Missing t x)
    by_hash u z (inl l) = inr (inl (record { unborne = u; without-zero = z; hashed = (counted_iff t (hash_text x)).1 l }))
    by_hash u z (inr l) = inr (inr (record { unborne = u; unhashed = inr (λ w. let k = (counted_iff t (hash_text x)).0 w in omega arith) }))

    by_zero : ¬ Borne t x → Dec (HoldsZero x) → Borne t x ⊎ (Collides t x ⊎ Missing t x)
    by_zero u (yes z) = inr (inr (record { unborne = u; unhashed = inl z }))
    by_zero u (no z) = by_hash u z (le_or_lt 1 (hash_count t (hash_text x)))

    by_borne : Dec (Borne t x) → Borne t x ⊎ (Collides t x ⊎ Missing t x)
    by_borne (yes w) = inl w
    by_borne (no u) = by_zero u (holds_zero? x)

-- ---- of an accepted table

module _ (t : Table) (x : List ℕ) (ok : Clean (string_checks t)) where
  pub entry_found_iff : (e : ℕ) → (entry_of_text t x ≡ Found e) ↔ BorneWith (entry_at t) t x e
  unfolding entry_of_text
  entry_found_iff e = found_by (entry_at t) t x ok e

  pub entry_collided_iff : (n : ℕ) → (entry_of_text t x ≡ Collided n) ↔ (Collides t x × (n ≡ hash_count t (hash_text x)))
  unfolding entry_of_text
  entry_collided_iff n = collided_by (entry_at t) t x ok n

  pub entry_absent_iff : (entry_of_text t x ≡ Absent) ↔ Missing t x
  unfolding entry_of_text
  entry_absent_iff = absent_by (entry_at t) t x ok

  -- name by text
  pub index_found_iff : (i : ℕ) → (index_of_text t x ≡ Found i) ↔ BorneWith (index_of t) t x i
  unfolding index_of_text
  index_found_iff i = found_by (index_of t) t x ok i

  pub index_collided_iff : (n : ℕ) → (index_of_text t x ≡ Collided n) ↔ (Collides t x × (n ≡ hash_count t (hash_text x)))
  unfolding index_of_text
  index_collided_iff n = collided_by (index_of t) t x ok n

  pub index_absent_iff : (index_of_text t x ≡ Absent) ↔ Missing t x
  unfolding index_of_text
  index_absent_iff = absent_by (index_of t) t x ok

  -- value by text
  pub address_found_iff : (a : ℕ) → (address_of_text t x ≡ Found a) ↔ BorneWith (λ k j. segment_of t k j * 65536 + element_of t k j) t x a
  unfolding address_of_text
  address_found_iff a = found_by (λ k j. segment_of t k j * 65536 + element_of t k j) t x ok a

  pub address_collided_iff : (n : ℕ) → (address_of_text t x ≡ Collided n) ↔ (Collides t x × (n ≡ hash_count t (hash_text x)))
  unfolding address_of_text
  address_collided_iff n = collided_by (λ k j. segment_of t k j * 65536 + element_of t k j) t x ok n

  pub address_absent_iff : (address_of_text t x ≡ Absent) ↔ Missing t x
  unfolding address_of_text
  address_absent_iff = absent_by (λ k j. segment_of t k j * 65536 + element_of t k j) t x ok

  -- the index of a text is the list position that holds it: there is no other
  pub index_listed : (i : ℕ) → (index_of_text t x ≡ Found i) ↔ ((1 ≤ i) × (i < count t) × (listed_text t i ≡ x))
  index_listed i = (onward, back)
    where
      entries_clean : Clean (all_entry_checks t)
      entries_clean = (strings_parts t ok).0

      onward : index_of_text t x ≡ Found i → (1 ≤ i) × (i < count t) × (listed_text t i ≡ x)
      onward e =
          let w = (index_found_iff i).0 e in
          let g = (all_good t entries_clean w.0 w.2.0 w.1 w.2.1).indexed in (
            omega (arith, g.low, w.2.2.1),
            omega (arith, g.high, w.2.2.1),
            sym (text-of-index t entries_clean w.0 w.2.0 i w.1 w.2.1 w.2.2.1) ∙ w.2.2.0,
          )

      back : (1 ≤ i) × (i < count t) × (listed_text t i ≡ x) → index_of_text t x ≡ Found i
      back h =
          let w = all-carried t (strings_parts t ok).1 i h.0 h.1 in
          let e = text-of-index t entries_clean w.0 w.2.0 i w.1 w.2.1 w.2.2 in
          (index_found_iff i).1 (w.0, w.1, (w.2.0, w.2.1, (e ∙ h.2, w.2.2)))

-- ---- a text that holds a 0

text-zero : (b : List ℕ) (p n i : ℕ) → i < length (text_in b p n) → get_or (text_in b p n) i 0 ≡ 0 → ⊥
text-zero b p n i h z =
    text-live b p n i h
    (sym (chars-at b p (length (text_in b p n)) i h) ∙ ap (λ (l : List ℕ). get_or l i 0) (sym (text-chars b p n)) ∙ z)

zero-unborne : (t : Table) (x : List ℕ) (i : ℕ) → i < length x → get_or x i 0 ≡ 0 → Borne t x → ⊥
unfolding text_of text_to text_at
zero-unborne t x i h z w = text-zero _ _ _ i (rw w.2.2 h) (ap (λ (l : List ℕ). get_or l i 0) w.2.2 ∙ z)

pub zero_missing : (t : Table) (x : List ℕ) (i : ℕ) → i < length x → get_or x i 0 ≡ 0 → Missing t x
zero_missing t x i h z = record { unborne = zero-unborne t x i h z; unhashed = inl (i, h, z) }
