use Prim.Native.Nat.{◌*◌, ◌^◌, ◌<◌}
use mathlib.Core.Path.{◌≡◌}
use Rattle.hash.specs.Hash.{hash_on}
use Rattle.hash.specs.Fold.{fold_text}
use Rattle.text.specs.Text.{chars}
use Rattle.text.proofs.AsBytes.{folded_from}
use Rattle.text.proofs.parts.fold_fours.Given as goal

abbrev pub invariant-loop-k : goal.invariant-loop-k
invariant-loop-k l = (l.g < 2 ^ 32) × (hash_on 0 (fold_text (chars l.s l.p l.n)) ≡ folded_from l.s l.p l.n (4 * l.k) l.g)
