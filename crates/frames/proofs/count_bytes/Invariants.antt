use Rattle.frames.proofs.Pairs.{Counting}
use Prim.Native.Nat.{◌+◌, ◌*◌}
use Rattle.frames.proofs.count_bytes.Given as goal

abbrev pub invariant-loop-k : goal.invariant-loop-k
invariant-loop-k l = Counting l.input l.p l.k (l.p + 2 * l.k)
