use Rattle.strings.specs.inner.Ahead.{SeenBefore}
use Rattle.strings.proofs.ahead.load_ahead.Given as goal

abbrev pub invariant-loop-i : goal.invariant-loop-i
invariant-loop-i l = SeenBefore l.table.file.now l.i l.spots l.seen
