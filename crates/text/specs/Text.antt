-- Texts (FORMAT, "Texts"): the characters from an address up to the first 0 or the end of the used part, whichever is first.
use Rattle.std.specs.Prelude.{ℕ, zero, suc, ◌+◌, ◌-◌, ◌*◌, ◌≤◌, ◌<◌, ◌≡◌, ◌⊎◌, cond, List, [], ◌∷◌, eqb, length, get_or}
use Rattle.std.proofs.Math.Decide.{ℕ_discrete}
use Rattle.verdict.specs.Checks.{SomeBelow}
use Rattle.verdict.specs.Decide.{some_below?}
use Rattle.le.specs.Le.{u16_at}
use Rattle.region.specs.Region.{place_of, used_of}

-- n characters from an offset on, two bytes each, low byte first.
unfoldable pub chars : List ℕ → ℕ → ℕ → List ℕ
chars b p zero = []
chars b p (suc n) = u16_at b p ∷ chars b (p + 2) n

-- Characters up to the first 0, or all of them.
unfoldable pub up_to_zero : List ℕ → List ℕ
up_to_zero [] = []
up_to_zero (c ∷ cs) = cond (eqb c 0) [] (c ∷ up_to_zero cs)

-- The text that starts at an offset with n characters of its used part left.
unfoldable pub text_in : List ℕ → ℕ → ℕ → List ℕ
text_in b p n = up_to_zero (chars b p n)

-- The rule, of which text_in is the computation (proofs/Rule): the text at p has m characters. None of them is 0, and behind them is the end
-- of the used part or a 0.
pub record TextEnds (b : List ℕ) (p n m : ℕ) : Type 0 where
  pub inside : m ≤ n
  pub live : (i : ℕ) → i < m → u16_at b (p + 2 * i) ≡ 0 → ⊥
  pub ends : (m ≡ n) ⊎ (u16_at b (p + 2 * m) ≡ 0)

-- How many characters of its segment's used part are left at an address.
unfoldable pub room_at : List ℕ → ℕ → ℕ → ℕ → ℕ
room_at b r seg el = used_of 2 b r seg - el

-- The text at an address of the character region r.
unfoldable pub text_at : List ℕ → ℕ → ℕ → ℕ → List ℕ
text_at b r seg el = text_in b (place_of 2 b r seg el) (room_at b r seg el)

-- A text holds a 0. No text of a file does; one that is asked for may.
abbrev pub HoldsZero : List ℕ → Type 0
HoldsZero x = SomeBelow (length x) (λ i. get_or x i 0 ≡ 0)

unfoldable pub holds_zero? : (x : List ℕ) → Dec (HoldsZero x)
holds_zero? x = some_below? (length x) (λ i. ℕ_discrete (get_or x i 0) 0)
