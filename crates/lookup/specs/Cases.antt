-- When a lookup answers found, collided or absent (FORMAT, "Questions"): found where an entry bears the text.
use Rattle.std.specs.Prelude.{ℕ, ◌⊎◌, List}
use Rattle.hash.specs.Hash.{hash_text}
use Rattle.text.specs.Text.{HoldsZero}
use Rattle.layout.specs.Table.{Table}
use Rattle.lookup.specs.Collisions.{HasHash}
use Rattle.lookup.specs.Lookup.{Borne}

-- Collided: no entry bears the text, it holds no 0, and some entry has its hash.
pub record Collides (t : Table) (x : List ℕ) : Type 0 where
  pub unborne : Borne t x → ⊥
  pub without-zero : HoldsZero x → ⊥
  pub hashed : HasHash t (hash_text x)

-- Absent: no entry bears the text; and either it holds a 0, or no entry has its hash.
pub record Missing (t : Table) (x : List ℕ) : Type 0 where
  pub unborne : Borne t x → ⊥
  pub unhashed : HoldsZero x ⊎ (HasHash t (hash_text x) → ⊥)

-- Exactly one of three holds.
pub record OneOfThree (A B C : Type 0) : Type 0 where
  pub one : A ⊎ (B ⊎ C)
  pub first-second : A → B → ⊥
  pub first-third : A → C → ⊥
  pub second-third : B → C → ⊥
