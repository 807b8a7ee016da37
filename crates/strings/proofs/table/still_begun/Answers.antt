use mathlib.Core.Logic.{⊎_elim}
use Rattle.verdict.proofs.Laws.{unsure}
use Rattle.strings.proofs.Begun.{begun_first, begun_behind}
use Rattle.strings.proofs.Places.{element-at}
use Rattle.strings.proofs.table.still_begun.Goals as goal

pub returns-then-not-before : goal.returns-then-not-before
returns-then-not-before c = unsure

pub returns : goal.returns
returns c = let p = c.requires in
    λ z. (
      c.if-not-before.false,
      ⊎_elim
          (begun_first _ _ _ p.1 p.2 _ (element-at _ _ _ _ _ c.entry_at-e.ensures.0 c.element.ensures.0))
          (begun_behind _ _ _ p.1 p.2)
          (c.can_begin.ensures.so z),
    )
