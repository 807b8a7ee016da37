use native.Mathlib.Omega.{arith}
use Rattle.strings.proofs.Places.{position_is, position_in}
use Rattle.strings.proofs.entry.position_at.Goals as goal

pub overflow_mul-result : goal.overflow_mul-result
overflow_mul-result c = omega (arith, position_in _ _ _ _ c.args.table.now.held _ c.requires)

pub overflow_add-result : goal.overflow_add-result
overflow_add-result c = omega (arith, position_in _ _ _ _ c.args.table.now.held _ c.requires)

pub returns : goal.returns
returns c = let h = c.args.table.now.held in (position_is _ _ _ _ h _, position_in _ _ _ _ h _ c.requires)
