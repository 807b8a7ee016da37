use mathlib.Core.Path.{sym, ◌∙◌}
use borrow.Author.Tests.{eqb-true}
use Rattle.verdict.proofs.Laws.{unsure}
use Rattle.positions.proofs.Ranks.{packed}
use Rattle.positions.proofs.packing.is_packed.Goals as goal

pub returns-then-not-begun : goal.returns-then-not-begun
returns-then-not-begun c = unsure

pub returns : goal.returns
returns c = let p = c.requires in
    λ z. packed _ p.0 (p.1 c.if-not-begun.false) (sym c.count_begun.ensures ∙ eqb-true _ _ z ∙ c.entry_total.ensures.0)
