use Prim.Native.Nat.{◌+◌, ◌*◌}
use Rattle.frames.proofs.Written.{Writing}
use Rattle.frames.proofs.write_bytes.Given as goal

abbrev pub invariant-loop-i : goal.invariant-loop-i
invariant-loop-i l = Writing l.input l.p l.k l.n l.initial.out l.i (l.p + 2 * l.i) l.out
