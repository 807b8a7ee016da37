use Rattle.verdict.proofs.Laws.{tells_leb}
use Rattle.search.proofs.Groups.{buckets_held}
use native.Mathlib.Omega.{arith}
use Rattle.search.proofs.group.spread.Goals as goal

pub overflow_sub-result : goal.overflow_sub-result
overflow_sub-result c = omega (arith, (buckets_held _ _ _ _ c.args.table.now.held c.wide.ensures.0).1)

pub returns : goal.returns
returns c = let z = buckets_held _ _ _ _ c.args.table.now.held c.wide.ensures.0 in
    tells_leb _ _ (λ l. omega (arith, z.0, z.1, l)) (λ l. omega (arith, z.0, l))
