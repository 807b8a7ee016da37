use native.Mathlib.Omega.{arith}
use Rattle.positions.proofs.Enough.{list_held, few-entries}
use Rattle.positions.proofs.entry_total.Goals as goal

pub overflow_sub-result : goal.overflow_sub-result
overflow_sub-result c = omega (arith, list_held _ _ _ _ c.args.table.now.held _ c.wide.ensures.0)

pub overflow_sub-result-2 : goal.overflow_sub-result-2
overflow_sub-result-2 c = omega (arith, list_held _ _ _ _ c.args.table.now.held _ c.wide.ensures.0)

pub returns : goal.returns
returns c = let z = list_held _ _ _ _ c.args.table.now.held _ c.wide.ensures.0 in
    (omega arith, omega (arith, few-entries _ _ _ _ c.args.table.now.held))
