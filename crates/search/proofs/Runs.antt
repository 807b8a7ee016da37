-- The entries of a bucket with one hash, read in a row. Assumes nothing.
use Prim.Native.Nat.{ℕ, ◌+◌, ◌≤◌, ◌<◌}
use native.Mathlib.Omega.{arith}
use mathlib.Core.Path.{◌≡◌, ap, ◌∙◌}
use mathlib.Core.Bool.{false, false≢true}
use mathlib.Core.Logic.{⊎_elim}
use Rattle.laws.proofs.Order.{le_or_lt}
use Rattle.verdict.proofs.Laws.{Clean}
use Rattle.le.specs.Le.{u32_at}
use Rattle.layout.specs.Table.{Table, entries, entry_at, hash_of}
use Rattle.strings.specs.Order.{all_entry_checks}
use Rattle.strings.proofs.Only.{rises}
use Rattle.search.specs.inner.Run.{word_of, Meets}

-- a field, by where its entry stands
pub word_at : (t : Table) (k j field e x : ℕ) → e ≡ entry_at t k j → x ≡ u32_at t.bytes (e + field) → x ≡ word_of t k j field
word_at t k j field e x p q = q ∙ ap (λ (a : ℕ). u32_at t.bytes (a + field)) p

-- none that was passed has it, and the hashes to come are not below h
pub record Read (t : Table) (k h field w n j : ℕ) : Type 0 where
  pub many : n ≡ entries t k
  pub none : (m : ℕ) → m < j → hash_of t k m ≡ h → word_of t k m field ≡ w → ⊥
  pub above : (m : ℕ) → j ≤ m → m < entries t k → h ≤ hash_of t k m

module _ (t : Table) (k h field w n j : ℕ) (r : Read t k h field w n j) where
  -- past an entry with another hash none has this one
  pub read_over : Clean (all_entry_checks t) → k < t.buckets → j < n → (x : ℕ) → x ≡ hash_of t k j → (x ≡ h → ⊥) → Meets t k h field w false
  read_over ok b l x e f = record { so = λ a. absurd (false≢true a); not = λ a m c g. ⊎_elim (later m c g) (λ d. r.none m d g) (le_or_lt j m) }
    where
      later : (m : ℕ) → m < entries t k → hash_of t k m ≡ h → j ≤ m → word_of t k m field ≡ w → ⊥
      later m c g d q = f (omega (arith, r.above j (omega arith) (omega (arith, r.many)), rises t ok k j m b d c, e))
