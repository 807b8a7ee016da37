use Rattle.verdict.specs.inner.Tells.{Sure}
use Rattle.memo.specs.inner.Memo.{Remembers}
use Rattle.prefetch.specs.inner.Batch.{AllHashed, AllBehind}
use Rattle.nodes.specs.inner.Noted.{noted}
use Rattle.prefetch.proofs.steps.all_pass.Given as goal

abbrev pub invariant-loop-j : goal.invariant-loop-j
invariant-loop-j l = AllHashed l.b l.slots l.j l.texts × Sure (AllBehind l.b l.slots l.j l.texts) l.packed × Remembers (noted l.b) l.memo
