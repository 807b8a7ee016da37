use mathlib.Core.Path.{sym}
use Rattle.batch.proofs.Placed.{TextAt, text_measured}
use Rattle.batch.proofs.Slots.{stands_first, stands_even, stands_more, some_taken, read_of, read_small, group_none, group_more}
use native.Mathlib.Omega.{arith}
use Rattle.batch.proofs.group.measure_group.Goals as goal
use Rattle.batch.proofs.group.measure_group.Goals.{After-measure-x}

-- the text measured
found : (c : After-measure-x) → TextAt c.args.texts.now c.loop-n.p c.measure-x.result.length c.measure-x.result.hash
found c =
    let p = c.requires in
    text_measured _ _ p.0 (omega (arith, c.loop-n.invariant.stands, stands_even c.args.at c.loop-n.lengths c.loop-n.n p.1)) c.if-p-texts.false (read_of c.measure-x.ensures)

pub loop-n-init : goal.loop-n-init
loop-n-init c = let p = c.requires in record { group = group_none _ _ _ _ p.3 p.4; stands = sym (stands_first _ _) }

pub returns-then-p-texts : goal.returns-then-p-texts
returns-then-p-texts c = let i = c.loop-n.invariant in
    (some_taken _ _ _ _ _ i.stands c.requires.2 c.if-p-texts.true, i.group)

pub overflow_cast-hashes : goal.overflow_cast-hashes
overflow_cast-hashes c = record { fits = omega (arith, read_small (read_of c.measure-x.ensures)) }

pub overflow_mul-p : goal.overflow_mul-p
overflow_mul-p c = record { fits = omega (arith, (found (goal.at.overflow_mul-p c).After-measure-x).within) }

pub overflow_add-p : goal.overflow_add-p
overflow_add-p c = record { fits = omega (arith, (found (goal.at.overflow_add-p c).After-measure-x).within) }

pub overflow_add-p-in-loop-n : goal.overflow_add-p-in-loop-n
overflow_add-p-in-loop-n c = record { fits = omega (arith, (found (goal.at.overflow_add-p-in-loop-n c).After-measure-x).within) }

pub loop-n-preserved : goal.loop-n-preserved
loop-n-preserved c = let i = c.loop-n.invariant in record {
  group = group_more i.group i.stands c.if-p-texts.false c.loop-n-test.true (read_of c.measure-x.ensures);
  stands = stands_more _ _ _ _ _ (omega (arith, c.loop-n-test.true, i.group.lengths_long)) i.stands;
}
