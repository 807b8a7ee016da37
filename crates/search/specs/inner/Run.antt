-- What the entries of a bucket with one hash are asked for.
use Rattle.std.specs.Prelude.{ℕ, ◌+◌, ◌<◌, ◌≡◌, Bool, true, false}
use Rattle.verdict.specs.Checks.{SomeBelow}
use Rattle.le.specs.Le.{u32_at}
use Rattle.layout.specs.Table.{Table, entries, entry_at, hash_of}

-- The four bytes of an entry at one of its fields.
abbrev pub word_of : Table → ℕ → ℕ → ℕ → ℕ
word_of t k j field = u32_at t.bytes (entry_at t k j + field)

-- An entry of bucket k has w there; or none with hash h has.
pub record Meets (t : Table) (k h field w : ℕ) (r : Bool) : Type 0 where
  pub so : r ≡ true → SomeBelow (entries t k) (λ j. word_of t k j field ≡ w)
  pub not : r ≡ false → (j : ℕ) → j < entries t k → hash_of t k j ≡ h → word_of t k j field ≡ w → ⊥
