-- A text that stands behind four changed bytes is the same in both files. Groundwork for request T-12. Assumes nothing.
use Prim.Native.Nat.{ℕ, zero, suc, ◌+◌, ◌-◌, ◌≤◌}
use native.Mathlib.Omega.{arith}
use mathlib.Core.Path.{◌≡◌, refl}
use mathlib.Core.Logic.{inr}
use mathlib.Core.List.{List}
use Rattle.le.proofs.Agree.{Agree, u16_same}
use Rattle.region.specs.Region.{place_of, used_of}
use Rattle.region.proofs.Agree.{Alike, alike, clear_behind, place_same, start_behind}
use Rattle.text.specs.Text.{chars, text_in, room_at, text_at}

module _ {b c : List ℕ} {x : ℕ} (a : Agree b c x) where
  chars-same : (n p : ℕ) → x + 4 ≤ p → chars c p n ≡ chars b p n
  unfolding chars
  chars-same zero p h = refl
  chars-same (suc n) p h = rw (u16_same a p (inr h), chars-same n (p + 2) (omega arith))

  module _ (r : ℕ) (h : x + 4 ≤ r) (seg el : ℕ) where
    region : Alike 2 b c r
    region = alike a 2 r (clear_behind 2 b r x h)

    place-low : x + 4 ≤ place_of 2 b r seg el
    unfolding place_of
    place-low = omega (arith, start_behind 2 b r seg)

    pub text_same : text_at c r seg el ≡ text_at b r seg el
    unfolding text_at text_in room_at
    text_same = rw (place_same region seg el, region.used seg, chars-same (used_of 2 b r seg - el) (place_of 2 b r seg el) place-low)
