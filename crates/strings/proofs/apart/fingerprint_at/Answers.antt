use native.Mathlib.Omega.{arith}
use Rattle.layout.specs.Table.{segment_of, element_of}
use Rattle.strings.specs.inner.Lent.{lent_table}
use Rattle.strings.proofs.Places.{length_at}
use Rattle.strings.proofs.Spots.{Spotted, spotted, unspotted}
use Rattle.strings.proofs.Differing.{fingerprint_none, length_some, length-few, fingerprint_some}
use Rattle.strings.proofs.apart.fingerprint_at.Goals as goal
use Rattle.strings.proofs.apart.fingerprint_at.Goals.{In-Some, then-length-eq0-via-then-length-eq0, then-length-eq0-via-else-length-eq0+then-length-spot}

-- the text that the entry's address leads to
there : (c : In-Some) → let a = c.args in let t = lent_table a.table.now in Spotted t (segment_of t a.k a.j) (element_of t a.k a.j) c.in-Some.spot.at c.in-Some.spot.left
there c = spotted _ _ _ _ c.entry_at-e.ensures.0 c.entry_spot.ensures c.args.table.now.held.laid.characters c.in-Some.is

pub returns-in_default : goal.returns-in_default
returns-in_default c = fingerprint_none _ _ _ (λ r. unspotted _ _ _ _ c.entry_at-e.ensures.0 c.entry_spot.ensures c.in_default.is r.resolved)

pub returns-then-length-eq0 : goal.returns-then-length-eq0
returns-then-length-eq0 c = let q = c.entry_at-e.ensures.0 in
    let w = there (goal.at.returns-then-length-eq0 c).In-Some in
    let l = length_at _ _ _ _ _ q c.length-length.ensures in
    elim c.then-length-eq0.branch [
      | then-length-eq0-via-then-length-eq0 b ↦ fingerprint_none _ _ _ (length_some _ _ _ _ _ _ w l b.if-length-eq0.true)
      | then-length-eq0-via-else-length-eq0+then-length-spot b ↦ fingerprint_none _ _ _ (length-few _ _ _ _ _ _ w l b.if-length-spot.true)
    ]

pub overflow_add-spot : goal.overflow_add-spot
overflow_add-spot c = omega (arith, c.args.table.now.held.small, (there (goal.at.overflow_add-spot c).In-Some).fits)

pub fingerprint-requires : goal.fingerprint-requires
fingerprint-requires c = omega (arith, (there (goal.at.fingerprint-requires c).In-Some).fits)

pub returns : goal.returns
returns c = let q = c.entry_at-e.ensures.0 in
    let w = there (goal.at.returns c).In-Some in
    fingerprint_some _ _ _ _ _ _ w (length_at _ _ _ _ _ q c.length-length.ensures) _ c.fingerprint.ensures
