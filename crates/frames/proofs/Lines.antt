-- The first of some lines, and the others. Assumes nothing.
use mathlib.Core.Path.{◌≡◌, refl, ap, ◌∙◌}
use mathlib.Core.Bool.{true, false, ◌&&◌}
use mathlib.Core.List.{List, [], ◌∷◌}
use Prim.Native.Nat.{ℕ, zero, suc, ◌≤◌, ◌<◌}
use native.Mathlib.Omega.{arith}
use lib.Dec.{eqb}
use lib.ListN.{length, get_or, take, drop}
use borrow.Author.Tests.{eqb-true}
use Rattle.frames.specs.Lines.{add_byte, lines_of, is_digit, digits}
use Rattle.frames.specs.inner.Reading.{first_line}
use Rattle.frames.proofs.Tests.{by_test, and_left, and_right}
use Rattle.frames.proofs.Digits.{newline, digit_inside}

pub lines_open : (s : List ℕ) → 0 < length s → lines_of s ≡ first_line s ∷ lines_of (drop (length (first_line s)) s)
unfolding lines_of first_line add_byte
lines_open [] h = absurd (omega arith)
lines_open (c ∷ []) h = by_test (eqb c 10) (λ e. simp e) (λ e. simp e)
lines_open (c ∷ d ∷ ds) h =
    by_test (eqb c 10) (λ e. simp e) (λ e. simp e (ap (add_byte c) (lines_open (d ∷ ds) (omega arith))))

pub line-fits : (s : List ℕ) → length (first_line s) ≤ length s
unfolding first_line
line-fits [] = omega arith
line-fits (c ∷ cs) = by_test (eqb c 10) (λ e. simp e (omega arith)) (λ e. simp e (omega (arith, line-fits cs)))

pub line-some : (s : List ℕ) → 0 < length s → 0 < length (first_line s)
unfolding first_line
line-some [] h = h
line-some (c ∷ cs) h = omega arith

pub line-inside : (c : ℕ) (cs : List ℕ) → eqb c 10 ≡ false → first_line (c ∷ cs) ≡ c ∷ first_line cs
unfolding first_line
line-inside c cs e = simp e

-- as far as there are digits, the first line is what stands there
pub digits-line : (k : ℕ) (s : List ℕ) → digits (take k (first_line s)) ≡ digits (take k s)
unfolding first_line digits
digits-line zero s = refl
digits-line (suc k) [] = refl
digits-line (suc k) (c ∷ cs) =
    by_test (eqb c 10)
    (λ e. simp (ap is_digit (eqb-true c 10 e) ∙ newline))
    (λ e. simp e (ap (λ b. is_digit c && b) (digits-line k cs)))

digit_first : (c k : ℕ) (cs : List ℕ) → digits (take (suc k) (c ∷ cs)) ≡ true → eqb c 10 ≡ false
unfolding digits
digit_first c k cs h = digit_inside c (and_left (is_digit c) (digits (take k cs)) h)

digits_next : (c k : ℕ) (cs : List ℕ) → digits (take (suc k) (c ∷ cs)) ≡ true → digits (take k cs) ≡ true
unfolding digits
digits_next c k cs h = and_right (is_digit c) (digits (take k cs)) h

pub take-line : (k : ℕ) (s : List ℕ) → digits (take k s) ≡ true → take k (first_line s) ≡ take k s
unfolding first_line
take-line zero s h = refl
take-line (suc k) [] h = refl
take-line (suc k) (c ∷ cs) h = simp (digit_first c k cs h) (ap (λ r. c ∷ r) (take-line k cs (digits_next c k cs h)))

pub drop-line : (k : ℕ) (s : List ℕ) → digits (take k s) ≡ true → drop k (first_line s) ≡ first_line (drop k s)
unfolding first_line
drop-line zero s h = refl
drop-line (suc k) [] h = refl
drop-line (suc k) (c ∷ cs) h = simp (digit_first c k cs h) (drop-line k cs (digits_next c k cs h))

pub get_line : (k : ℕ) (s : List ℕ) → digits (take k s) ≡ true → get_or (first_line s) k 0 ≡ get_or s k 0
unfolding first_line
get_line k [] h = refl
get_line zero (c ∷ cs) h = refl
get_line (suc k) (c ∷ cs) h = simp (digit_first c k cs h) (get_line k cs (digits_next c k cs h))
