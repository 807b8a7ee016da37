use Rattle.memo.specs.inner.Memo.{Remembers}
use Rattle.nodes.specs.inner.Noted.{noted}
use Rattle.prefetch.specs.inner.Examined.{Examined}
use Rattle.layout.specs.declared.Edition.TheVariants.{Bits64}
use Rattle.prefetch.proofs.all.doubt_wrong.Given as goal

abbrev pub invariant-loop-j : goal.invariant-loop-j
invariant-loop-j l = Examined Bits64 l.values.checked.table.file.now l.slots l.j l.initial.doubts.places l.doubts.places × Remembers (noted l.values.checked.table.file.now) l.memo
