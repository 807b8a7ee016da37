-- Digits: their values, and that a newline is none. Assumes nothing.
use mathlib.Core.Path.{◌≡◌, refl, sym, ap, ◌∙◌}
use mathlib.Core.Bool.{true, false, true≢false}
use mathlib.Core.Logic.{◌⊎◌, ⊎_elim}
use Prim.Native.Nat.{ℕ, ◌+◌, ◌-◌, ◌≤◌, ◌<◌}
use native.Mathlib.Omega.{arith}
use lib.Dec.{eqb}
use borrow.Author.Tests.{le-leb, lt-leb, leb-true, ne_eqb}
use Rattle.std.specs.Prelude.{Some, None}
use Rattle.frames.proofs.Tests.{by_test}
use Rattle.frames.specs.Lines.{digit_of, is_digit}
use Rattle.frames.specs.inner.Reading.{value_of}

below_nine : (c : ℕ) → c < 48 → digit_of c ≡ 16
unfolding digit_of
below_nine c h = let b : c < 97 = omega arith in simp (lt-leb 48 c h, lt-leb 97 c b)

to_nine : (c : ℕ) → 48 ≤ c → c ≤ 57 → digit_of c ≡ c - 48
unfolding digit_of
to_nine c h b = simp (le-leb 48 c h, le-leb c 57 b)

between : (c : ℕ) → 57 < c → c < 97 → digit_of c ≡ 16
unfolding digit_of
between c h b = let a : 48 ≤ c = omega arith in simp (le-leb 48 c a, lt-leb c 57 h, lt-leb 97 c b)

to_f : (c : ℕ) → 97 ≤ c → c ≤ 102 → digit_of c ≡ c - 87
unfolding digit_of
to_f c h b =
    let a : 48 ≤ c = omega arith in
    let d : 57 < c = omega arith in
    simp (le-leb 48 c a, lt-leb c 57 d, le-leb 97 c h, le-leb c 102 b)

above_f : (c : ℕ) → 102 < c → digit_of c ≡ 16
unfolding digit_of
above_f c h =
    let a : 48 ≤ c = omega arith in
    let d : 57 < c = omega arith in
    let e : 97 ≤ c = omega arith in
    simp (le-leb 48 c a, lt-leb c 57 d, le-leb 97 c e, lt-leb c 102 h)

pub is_digit_lem : (c : ℕ) → digit_of c ≤ 15 → is_digit c ≡ true
unfolding is_digit
is_digit_lem c h = le-leb (digit_of c) 15 h

pub no_digit : (c : ℕ) → 15 < digit_of c → is_digit c ≡ false
unfolding is_digit
no_digit c h = lt-leb (digit_of c) 15 h

pub digit_value : (c : ℕ) → is_digit c ≡ true → digit_of c ≤ 15
unfolding is_digit
digit_value c h = leb-true (digit_of c) 15 h

-- what the code answers
value_some : (c v : ℕ) → digit_of c ≡ v → v ≤ 15 → Some v ≡ value_of c
unfolding value_of
value_some c v e h = simp (is_digit_lem c (omega arith), e)

value_none : (c : ℕ) → digit_of c ≡ 16 → None ≡ value_of c
unfolding value_of
value_none c e = simp (no_digit c (omega arith))

pub value-number : (c : ℕ) → 48 ≤ c → c ≤ 57 → Some (c - 48) ≡ value_of c
value-number c h b = value_some c (c - 48) (to_nine c h b) (omega arith)

pub value-letter : (c : ℕ) → 97 ≤ c → c ≤ 102 → Some (c - 97 + 10) ≡ value_of c
value-letter c h b = let e : c - 87 ≡ c - 97 + 10 = omega arith in value_some c (c - 97 + 10) (to_f c h b ∙ e) (omega arith)

pub value-other : (c : ℕ) → (c < 48) ⊎ (57 < c) → (c < 97) ⊎ (102 < c) → None ≡ value_of c
value-other c h b =
    ⊎_elim (λ l. value_none c (below_nine c l))
    (λ l. ⊎_elim (λ m. value_none c (between c l m)) (λ m. value_none c (above_f c m)) b)
    h

-- and what that says
pub record Value (c v : ℕ) : Type 0 where
  pub digit : is_digit c ≡ true
  pub is : v ≡ digit_of c
  pub small : v ≤ 15

pub value_inv : (c v : ℕ) → Some v ≡ value_of c → Value c v
unfolding value_of
value_inv c v e =
    by_test (is_digit c)
    (λ t. let w : v ≡ digit_of c = (let u = simp t at e in cc) in record { digit = t; is = w; small = omega (arith, digit_value c t) })
    (λ f. let u = simp f at e in absurd (cc))

pub none_inv : (c : ℕ) → None ≡ value_of c → is_digit c ≡ false
unfolding value_of
none_inv c e = by_test (is_digit c) (λ t. let u = simp t at e in absurd (cc)) (λ f. f)

-- a newline is no digit
pub newline : is_digit 10 ≡ false
unfolding is_digit digit_of
newline = refl

pub digit_inside : (c : ℕ) → is_digit c ≡ true → eqb c 10 ≡ false
digit_inside c h = ne_eqb c 10 (λ e. true≢false (sym h ∙ ap is_digit e ∙ newline))
