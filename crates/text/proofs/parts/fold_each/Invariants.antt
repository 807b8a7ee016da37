use Prim.Native.Nat.{◌^◌, ◌<◌}
use mathlib.Core.Path.{◌≡◌}
use Rattle.hash.specs.Hash.{hash_on}
use Rattle.hash.specs.Fold.{fold_text}
use Rattle.text.specs.Text.{chars}
use Rattle.text.proofs.AsBytes.{folded_from}
use Rattle.text.proofs.parts.fold_each.Given as goal

abbrev pub invariant-loop-i : goal.invariant-loop-i
invariant-loop-i l = (l.g < 2 ^ 32) × (hash_on l.h (fold_text (chars l.s l.p l.n)) ≡ folded_from l.s l.p l.n l.i l.g)
