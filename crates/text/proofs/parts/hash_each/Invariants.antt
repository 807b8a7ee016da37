use Prim.Native.Nat.{◌^◌, ◌<◌}
use mathlib.Core.Path.{◌≡◌}
use lib.ListN.{drop}
use Rattle.hash.specs.Hash.{hash_bytes}
use Rattle.text.proofs.parts.hash_each.Given as goal

abbrev pub invariant-loop-b : goal.invariant-loop-b
invariant-loop-b l = (l.g < 2 ^ 32) × (hash_bytes l.h l.s ≡ hash_bytes l.g (drop l.b-index l.s))
