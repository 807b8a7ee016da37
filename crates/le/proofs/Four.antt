-- Four bytes: four stores in a row, and the number read back. Assumes nothing.
use mathlib.Core.Path.{◌≡◌}
use mathlib.Core.List.{List, [], ◌∷◌, ◌++◌}
use Prim.Native.Nat.{ℕ, ◌+◌, ◌*◌, ◌/◌, ◌%◌, ◌^◌, ◌≤◌, ◌<◌}
use native.Mathlib.Nat.{div-div-eq-div-mul, mod-eq_of_lt}
use native.Mathlib.Numerals.{add-one, add-two, add-three}
use native.Mathlib.Omega.{arith}
use lib.ListN.{length, set}
use lib.Seq.{sets-eq, get_or-append-add}
use Rattle.laws.specs.inner.Lists.{splice}
use Rattle.le.specs.Le.{u32_at, le4}

pub four_stores : (d : List ℕ) (i a b c e : ℕ) → i + 4 ≤ length d
    → set (set (set (set d i a) (i + 1) b) (i + 2) c) (i + 3) e ≡ splice d i (a ∷ b ∷ c ∷ e ∷ [])
unfolding splice
four_stores d i a b c e h = rw (add-one, add-two, add-three) (sets-eq (a ∷ b ∷ c ∷ e ∷ []) d i h)

-- a number below 2 ^ 32 is the sum of its four bytes
four_bytes : (a : ℕ) → a < 2 ^ 32 → a % 256 + a / 256 % 256 * 256 + a / 65536 % 256 * 65536 + a / 16777216 % 256 * 16777216 ≡ a
four_bytes a h =
    let p : a / 256 / 256 ≡ a / 65536 = div-div-eq-div-mul a 256 256 in
    let q : a / 65536 / 256 ≡ a / 16777216 = div-div-eq-div-mul a 65536 256 in
    let m : a / 16777216 % 256 ≡ a / 16777216 = mod-eq_of_lt {m = 256} (omega arith) in
    omega arith

pub le4_front : (a : ℕ) (t : List ℕ) → a < 2 ^ 32 → u32_at (le4 a ++ t) 0 ≡ a
unfolding u32_at le4
le4_front a t h = four_bytes a h

pub shifted : (s t : List ℕ) (j : ℕ) → u32_at (s ++ t) (length s + j) ≡ u32_at t j
unfolding u32_at
shifted s t j =
    let e1 : length s + j + 1 ≡ length s + (j + 1) = omega arith in
    let e2 : length s + j + 2 ≡ length s + (j + 2) = omega arith in
    let e3 : length s + j + 3 ≡ length s + (j + 3) = omega arith in
    rw (e1, e2, e3, get_or-append-add s t j 0, get_or-append-add s t (j + 1) 0, get_or-append-add s t (j + 2) 0, get_or-append-add s t (j + 3) 0)
