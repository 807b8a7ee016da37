-- The text of a part of some bytes. Assumes nothing.
use mathlib.Core.Path.{◌≡◌, ap, ◌∙◌}
use mathlib.Core.List.{List}
use Prim.Native.Nat.{ℕ, ◌+◌, ◌-◌, ◌*◌, ◌/◌, ◌≤◌, ◌<◌}
use native.Mathlib.Omega.{arith}
use lib.ListN.{length, take, drop, length-drop}
use lib.Seq.{length-take-le, get_or-take, get_or-drop}
use Rattle.le.specs.Le.{u16_at}
use Rattle.text.specs.Text.{chars}
use Rattle.text.proofs.OneByOne.{chars-same}
use Rattle.lookup.specs.Lookup.{text_from}

-- n characters of b, as a text of its own
module _ (b : List ℕ) (at n : ℕ) (h : at + 2 * n ≤ length b) where
  pub part_length : length (take (2 * n) (drop at b)) ≡ 2 * n
  part_length = length-take-le (2 * n) (drop at b) (omega (arith, length-drop at b))

  part_char : (i : ℕ) → i < n → u16_at (take (2 * n) (drop at b)) (0 + 2 * i) ≡ u16_at b (at + 2 * i)
  unfolding u16_at
  part_char i l =
      let z : 0 + 2 * i ≡ 2 * i = omega arith in
      let e : at + 2 * i + 1 ≡ at + (2 * i + 1) = omega arith in
      rw (z, e, get_or-take (2 * n) (drop at b) (2 * i) 0 (omega arith), get_or-take (2 * n) (drop at b) (2 * i + 1) 0 (omega arith), get_or-drop at b (2 * i) 0, get_or-drop at b (2 * i + 1) 0)

  pub part_text : text_from (take (2 * n) (drop at b)) ≡ chars b at n
  unfolding text_from
  part_text =
      let k : length (take (2 * n) (drop at b)) / 2 ≡ n = omega (arith, part_length) in
      ap (chars (take (2 * n) (drop at b)) 0) k ∙ chars-same (take (2 * n) (drop at b)) b n 0 at part_char

  -- as a slice from its start to its end
  pub slice_half : length (take (at + 2 * n - at) (drop at b)) / 2 ≡ n
  slice_half = let e : at + 2 * n - at ≡ 2 * n = omega arith in rw e (omega (arith, part_length))

  pub slice_text : text_from (take (at + 2 * n - at) (drop at b)) ≡ chars b at n
  slice_text = let e : at + 2 * n - at ≡ 2 * n = omega arith in rw e part_text
