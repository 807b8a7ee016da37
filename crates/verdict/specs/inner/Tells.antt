-- Truths that the code answers.
use Rattle.std.specs.Prelude.{◌≡◌, Bool, true, false}

-- A truth that the code answers tells whether P.
pub record Tells (P : Type 0) (r : Bool) : Type 0 where
  pub so : r ≡ true → P
  pub not : r ≡ false → P → ⊥

-- Where r is true, P holds; where it is not, nothing is told.
abbrev pub Sure : Type 0 → Bool → Type 0
Sure P r = r ≡ true → P
