use Rattle.search.proofs.Searches.{near_all, looked_end}
use native.Mathlib.Omega.{arith}
use Rattle.search.proofs.group.lower_bounds.Goals as goal

pub returns-then-skipped-gt0 : goal.returns-then-skipped-gt0
returns-then-skipped-gt0 c = let p = c.requires in near_all _ _ _ p.0 c.args.table.now.held.some-bucket _ c.find_all.ensures

pub returns-then-m-eq0 : goal.returns-then-m-eq0
returns-then-m-eq0 c = let p = c.requires in near_all _ _ _ p.0 c.args.table.now.held.some-bucket _ (looked_end _ _ _ _ _ _ _ c.probe_each-m.ensures (omega (arith, c.if-m-eq0.true)))

pub returns-then-n-m : goal.returns-then-n-m
returns-then-n-m c = let p = c.requires in near_all _ _ _ p.0 c.args.table.now.held.some-bucket _ c.find_rest.ensures

pub returns-else-n-m : goal.returns-else-n-m
returns-else-n-m c = let p = c.requires in near_all _ _ _ p.0 c.args.table.now.held.some-bucket _ c.find_rest.ensures
