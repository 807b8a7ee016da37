use native.Mathlib.Omega.{arith}
use Rattle.layout.specs.Table.{segment_of, element_of}
use Rattle.strings.specs.inner.Lent.{lent_table}
use Rattle.strings.proofs.Checks.{measured_few, not-long, not-hashed, sized, text-right, refused_7, refused_8, refused_9}
use Rattle.strings.proofs.Prefetched.{stands_nowhere, stands_spot}
use Rattle.strings.proofs.Places.{length_at, hash_at}
use Rattle.strings.proofs.Spots.{Spotted}
use Rattle.strings.proofs.entry.check_entry.Goals as goal
use Rattle.strings.proofs.entry.check_entry.Goals.{In-Some}

-- the text that was read ahead
there : (c : In-Some) → let a = c.args in let t = lent_table a.table.now in Spotted t (segment_of t a.k a.j) (element_of t a.k a.j) c.in-Some.spot.at c.in-Some.spot.left
there c = stands_spot _ _ _ c.requires.2.standing c.args.table.now.held.laid.characters c.in-Some.is

pub returns-in_default : goal.returns-in_default
returns-in_default c = refused_7 _ _ _ _ c.entry_at-e.ensures.0 (stands_nowhere _ _ _ c.requires.2.standing c.in_default.is)

pub measure-m-requires : goal.measure-m-requires
measure-m-requires c = (there (goal.at.measure-m-requires c).In-Some).fits

pub overflow_add-m : goal.overflow_add-m
overflow_add-m c = let w = there (goal.at.overflow_add-m c).In-Some in omega (arith, measured_few _ _ _ _ _ _ c.measure-m.ensures w)

pub returns-then-length-m : goal.returns-then-length-m
returns-then-length-m c = let w = there (goal.at.returns-then-length-m c).In-Some in
    let q = c.entry_at-e.ensures.0 in
    refused_8 _ _ _ _ q w.resolved
    (not-long _ _ _ _ _ _ c.measure-m.ensures w _ (length_at _ _ _ _ _ q c.length.ensures) c.if-length-m.true)

pub returns-then-hash-m : goal.returns-then-hash-m
returns-then-hash-m c = let w = there (goal.at.returns-then-hash-m c).In-Some in
    let q = c.entry_at-e.ensures.0 in
    let m = c.measure-m.ensures in
    refused_9 _ _ _ _ q w.resolved
    (sized _ _ _ _ _ _ m w _ (length_at _ _ _ _ _ q c.length.ensures) c.if-length-m.false)
    (not-hashed _ _ _ _ _ _ m w _ (hash_at _ _ _ _ _ q c.hash.ensures.0) c.if-hash-m.true)

pub check_order-requires : goal.check_order-requires
check_order-requires c = let q = c.entry_at-e.ensures.0 in
    let p = c.requires in
    let r = text-right _ _ _ _ _ _ c.measure-m.ensures (there (goal.at.check_order-requires c).In-Some) _ (length_at _ _ _ _ _ q c.length.ensures)
    c.if-length-m.false _ (hash_at _ _ _ _ _ q c.hash.ensures.0) c.if-hash-m.false in
    (p.0, p.1, r, c.index_passes-right.ensures, p.3)
