use Rattle.verdict.proofs.Laws.{tells_no}
use Rattle.text.proofs.Laws.{length-chars}
use Rattle.strings.proofs.Places.{length_at}
use Rattle.strings.proofs.Spots.{spotted, unspotted}
use Rattle.lookup.specs.Lookup.{text_from}
use Rattle.lookup.proofs.Bucket.{entry-resolved, other_length, standing, text_there}
use native.Mathlib.Omega.{arith}
use Rattle.lookup.proofs.entry_bears.Goals as goal

pub returns-then-length-n : goal.returns-then-length-n
unfolding text_from
returns-then-length-n c =
    tells_no (other_length _ _ _ _ _ _ c.args.checked.now.checked c.requires (length_at _ _ _ _ _ c.entry_at-e.ensures.0 c.length.ensures) (length-chars _ _ _) c.if-length-n.true)

pub returns-in_default : goal.returns-in_default
returns-in_default c = absurd (unspotted _ _ _ _ c.entry_at-e.ensures.0 c.entry_spot.ensures c.in_default.is (entry-resolved _ _ _ c.args.checked.now.checked c.requires))

pub alike-requires : goal.alike-requires
alike-requires c = let a = c.args.checked.now in
    let e = c.entry_at-e.ensures.0 in
    let w = spotted _ _ _ _ e c.entry_spot.ensures a.table.held.laid.characters c.in-Some.is in
    let x = standing _ _ _ _ _ _ _ a.table.held.laid a.checked c.requires w (length_at _ _ _ _ _ e c.length.ensures) c.if-length-n.false in
    (omega (arith, x.ends), omega arith)

pub returns : goal.returns
unfolding text_from
returns c = let a = c.args.checked.now in
    let e = c.entry_at-e.ensures.0 in
    let w = spotted _ _ _ _ e c.entry_spot.ensures a.table.held.laid.characters c.in-Some.is in
    let x = standing _ _ _ _ _ _ _ a.table.held.laid a.checked c.requires w (length_at _ _ _ _ _ e c.length.ensures) c.if-length-n.false in
    text_there _ _ _ _ _ _ x c.alike.ensures
