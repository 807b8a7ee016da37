use Prim.Native.Nat.{◌*◌, ◌^◌, ◌<◌}
use mathlib.Core.Path.{◌≡◌}
use Rattle.hash.specs.Hash.{hash_on}
use Rattle.text.specs.Text.{chars}
use Rattle.text.proofs.Walk.{chars_from}
use Rattle.text.proofs.hash_chars.Given as goal

abbrev pub invariant-loop-j : goal.invariant-loop-j
invariant-loop-j l = (l.g < 2 ^ 32) × (hash_on l.h (chars l.s l.p l.k) ≡ hash_on l.g (chars_from l.s l.p l.k (4 * l.j)))
