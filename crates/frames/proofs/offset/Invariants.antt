use Rattle.frames.proofs.Offsets.{Offset}
use Rattle.frames.proofs.offset.Given as goal

abbrev pub invariant-loop-i : goal.invariant-loop-i
invariant-loop-i l = Offset l.input l.p l.number l.i
