use native.Mathlib.Omega.{arith}
use Rattle.strings.proofs.Places.{earlier, few-entries}
use Rattle.strings.proofs.Differing.{left_less, meeting_start, meeting_here, meeting_next, met_some, met-none}
use Rattle.strings.proofs.apart.met.Goals as goal

pub last-next-requires : goal.last-next-requires
last-next-requires c = c.requires.3.filled

pub loop-next-init : goal.loop-next-init
loop-next-init c = let p = c.requires in meeting_start _ _ _ _ _ _ _ p.3 p.2 _ c.last-next.ensures

pub overflow_add-from : goal.overflow_add-from
overflow_add-from c = let p = c.requires in
    record {
      fits = omega (arith, meeting_here _ _ _ _ _ _ _ p.3 p.2 c.loop-next.invariant _ c.in-Some.is, p.1, p.0.entry, few-entries _ _ _ _ c.args.table.now.held _ p.0.bucket);
    }

pub same_text-requires : goal.same_text-requires
same_text-requires c = let p = c.requires in
    (earlier _ _ _ _ p.0 (omega (arith, meeting_here _ _ _ _ _ _ _ p.3 p.2 c.loop-next.invariant _ c.in-Some.is, p.1)), p.0)

pub returns-then-same_text : goal.returns-then-same_text
returns-then-same_text c = let p = c.requires in met_some _ _ _ _ _ _ _ p.3 p.2 c.loop-next.invariant _ c.in-Some.is

pub before-next-requires : goal.before-next-requires
before-next-requires c = let p = c.requires in
    let m = c.loop-next.invariant in
    (p.3.filled, meeting_here _ _ _ _ _ _ _ p.3 p.2 m _ c.in-Some.is, m.number _ c.in-Some.is)

pub loop-next-smaller : goal.loop-next-smaller
loop-next-smaller c = left_less c.in-Some.is _ c.before-next.ensures

pub loop-next-preserved : goal.loop-next-preserved
loop-next-preserved c = let p = c.requires in
    meeting_next _ _ _ _ _ _ _ p.3 p.2 c.loop-next.invariant _ _ c.in-Some.is (c.same_text.ensures.not c.if-same_text.false) c.before-next.ensures

pub returns : goal.returns
returns c = let p = c.requires in met-none _ _ _ _ _ _ _ p.3 p.2 c.loop-next.invariant c.in_default.is
