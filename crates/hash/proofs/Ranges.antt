-- The ranges of the fold. Assumes nothing.
use Prim.Native.Nat.{ℕ, ◌-◌, ◌≤◌, ◌<◌}
use native.Mathlib.Omega.{arith}
use mathlib.Core.Path.{◌≡◌, refl, ◌∙◌}
use mathlib.Core.Logic.{◌⊎◌, inl, inr, ⊎_elim}
use mathlib.Core.Bool.{Bool, true, false, true≢false, cond}
use borrow.Author.Tests.{le-leb, lt-leb, ne_eqb, eqb-true, eqb-false}
use lib.Dec.{eqb}
use Rattle.laws.proofs.Order.{le_or_lt}
use Rattle.hash.specs.Fold.{loses, folded}

keeps_below : (c : ℕ) → c < 0x61 → loses c ≡ false
unfolding loses
keeps_below c h = rw (lt-leb 0x61 c h, lt-leb 0xe0 c (omega arith))

keeps_between : (c : ℕ) → 0x7a < c → c < 0xe0 → loses c ≡ false
unfolding loses
keeps_between c h l = rw (le-leb 0x61 c (omega arith), lt-leb c 0x7a h, lt-leb 0xe0 c l)

keeps_above : (c : ℕ) → 0xfe < c → loses c ≡ false
unfolding loses
keeps_above c h = rw (le-leb 0x61 c (omega arith), lt-leb c 0x7a (omega arith), le-leb 0xe0 c (omega arith), lt-leb c 0xfe h)

never : {A : Type 0} (t : Bool) → t ≡ true → t ≡ false → A
never t e d = let z : true ≡ false = cc in absurd (true≢false z)

-- what loses 0020 is in one of the two ranges
loses-range : (c : ℕ) → loses c ≡ true → ((0x61 ≤ c) × (c ≤ 0x7a)) ⊎ ((0xe0 ≤ c) × (c ≤ 0xfe))
loses-range c e =
    ⊎_elim
    (λ a. ⊎_elim
    (λ b. inl (a, b))
    (λ b. ⊎_elim
    (λ d. ⊎_elim (λ f. inr (d, f)) (λ f. never (loses c) e (keeps_above c f)) (le_or_lt c 0xfe))
    (λ d. never (loses c) e (keeps_between c b d))
    (le_or_lt 0xe0 c))
    (le_or_lt c 0x7a))
    (λ a. never (loses c) e (keeps_below c a))
    (le_or_lt 0x61 c)

module _ (c : ℕ) (m : c ≡ 0x9c → ⊥) (n : c ≡ 0xff → ⊥) where
  -- past the two single characters
  rest : folded c ≡ cond (loses c) (c - 0x20) c
  unfolding folded
  rest = rw (ne_eqb c 0x9c m, ne_eqb c 0xff n)

  stays : loses c ≡ false → folded c ≡ c
  stays e = rest ∙ rw e

-- what is left of it stays
pub lost_stays : (c : ℕ) → loses c ≡ true → folded (c - 0x20) ≡ c - 0x20
lost_stays c e =
    ⊎_elim
    (λ r. stays (c - 0x20) (omega arith) (omega arith) (keeps_below (c - 0x20) (omega arith)))
    (λ r. stays (c - 0x20) (omega arith) (omega arith) (keeps_between (c - 0x20) (omega arith) (omega arith)))
    (loses-range c e)

by_test : (P : ℕ → Type 0) (b : Bool) (x y : ℕ) → (b ≡ true → P x) → (b ≡ false → P y) → P (cond b x y)
by_test P true x y t f = t refl
by_test P false x y t f = f refl

-- what holds of each way to fold c, holds of c folded
pub fold_ways : (P : ℕ → Type 0) (c : ℕ)
    → (c ≡ 0x9c → P 0x8c) → (c ≡ 0xff → P 0x9f) → (loses c ≡ true → P (c - 0x20)) → (folded c ≡ c → P c) → P (folded c)
unfolding folded
fold_ways P c a b l s =
    by_test P (eqb c 0x9c) 0x8c _ (λ e. a (eqb-true c 0x9c e)) (λ m.
    by_test P (eqb c 0xff) 0x9f _ (λ e. b (eqb-true c 0xff e)) (λ n.
    by_test P (loses c) (c - 0x20) c l (λ e. s (stays c (eqb-false c 0x9c m) (eqb-false c 0xff n) e))))
