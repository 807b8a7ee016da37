use native.Mathlib.Omega.{arith}
use Rattle.strings.proofs.Places.{few-entries}
use Rattle.strings.proofs.Differing.{rounds_start, rounds_next, rounds_end}
use Rattle.strings.proofs.apart.apart_until.Goals as goal

pub loop-done-init : goal.loop-done-init
loop-done-init c = rounds_start _ _ _ _

pub sift_some-r-requires : goal.sift_some-r-requires
sift_some-r-requires c = let p = c.requires in (p.0, c.loop-done-test.true, omega (arith, c.loop-done.invariant.last, p.2))

pub overflow_add-done : goal.overflow_add-done
overflow_add-done c = let p = c.requires in
    let e = c.sift_some-r.ensures in
    record { fits = omega (arith, e.0.inside, e.1, c.loop-done.invariant.last, p.2, few-entries _ _ _ _ c.args.table.now.held _ p.0) }

pub loop-done-smaller : goal.loop-done-smaller
loop-done-smaller c = let e = c.sift_some-r.ensures in omega (arith, e.1, e.2, c.loop-done-test.true)

pub loop-done-preserved : goal.loop-done-preserved
loop-done-preserved c = let e = c.sift_some-r.ensures in rounds_next _ _ _ _ _ _ _ _ c.loop-done.invariant e.0 e.1

pub returns : goal.returns
returns c = rounds_end _ _ _ _ _ _ c.loop-done.invariant (omega (arith, c.loop-done-test.false))
