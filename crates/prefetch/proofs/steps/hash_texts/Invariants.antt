use Rattle.memo.specs.inner.Memo.{Remembers}
use Rattle.nodes.specs.inner.Noted.{noted}
use mathlib.Core.Path.{◌≡◌}
use lib.ListN.{length}
use Rattle.prefetch.proofs.steps.hash_texts.Given as goal

abbrev pub invariant-loop-j : goal.invariant-loop-j
invariant-loop-j l = (length l.hashes ≡ 64) × Remembers (noted l.b) l.memo
