use mathlib.Core.Path.{sym}
use Rattle.strings.proofs.Places.{list_is}
use Rattle.positions.proofs.CountedBelow.{none-refused, first-refused}
use native.Mathlib.Omega.{arith}
use Rattle.positions.proofs.check_positions.Goals as goal

pub returns-then-n-entry_total : goal.returns-then-n-entry_total
returns-then-n-entry_total c = sym (none-refused _ c.requires _ (list_is _ _ _ _ c.args.table.now.held _ c.u32_at-n.ensures.0) (omega (arith, c.if-n-entry_total.true, c.entry_total.ensures.0)))

pub first_uncarried-i-requires : goal.first_uncarried-i-requires
first_uncarried-i-requires c =
    (c.requires, list_is _ _ _ _ c.args.table.now.held _ c.u32_at-n.ensures.0, omega (arith, c.if-n-entry_total.false, c.entry_total.ensures.0))

pub position_at-requires : goal.position_at-requires
position_at-requires c = c.first_uncarried-i.ensures.high

pub returns : goal.returns
returns c = sym (first-refused _ c.requires _ _ c.first_uncarried-i.ensures c.position_at.ensures.0)
