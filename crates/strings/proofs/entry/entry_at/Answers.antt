use native.Mathlib.Omega.{arith}
use Rattle.strings.proofs.Places.{entry_is, inside}
use Rattle.strings.proofs.entry.entry_at.Goals as goal

pub overflow_mul-result : goal.overflow_mul-result
overflow_mul-result c = omega (arith, inside _ _ _ _ c.args.table.now.held _ _ c.requires)

pub overflow_add-result-2 : goal.overflow_add-result-2
overflow_add-result-2 c = omega (arith, inside _ _ _ _ c.args.table.now.held _ _ c.requires)

pub returns : goal.returns
returns c = let h = c.args.table.now.held in (entry_is _ _ _ _ h _ _ _ c.requires.bucket c.wide.ensures.0, omega (arith, inside _ _ _ _ h _ _ c.requires))
