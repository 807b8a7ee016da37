use Prim.Native.Nat.{ℕ, ◌<◌}
use Rattle.layout.specs.declared.Edition.TheVariants.{Bits64}
use Rattle.keys.specs.Keys.{KeyNameRule}
use Rattle.keys.proofs.list.key_right.Given as goal

abbrev pub invariant-loop-f : goal.invariant-loop-f
invariant-loop-f l = (i : ℕ) → i < l.f → KeyNameRule Bits64 l.b l.k i
