use Rattle.layout.specs.Table.{segment_of, element_of}
use Rattle.strings.specs.Texts.{text_of}
use Rattle.strings.specs.inner.Lent.{lent_table}
use Rattle.strings.proofs.Places.{length_at}
use Rattle.strings.proofs.Runs.{parted}
use Rattle.strings.proofs.Differing.{compared, compared_no}
use Rattle.strings.proofs.Spots.{Spotted, spotted, unspotted, same-texts}
use Rattle.strings.proofs.entry.same_text.Goals as goal
use Rattle.strings.proofs.entry.same_text.Goals.{In-Some, In-Some-entry_spot}

-- the texts that the two addresses lead to
first : (c : In-Some) → let a = c.args in let t = lent_table a.table.now in Spotted t (segment_of t a.k a.i) (element_of t a.k a.i) c.in-Some.x.at c.in-Some.x.left
first c = spotted _ _ _ _ c.entry_at-d.ensures.0 c.entry_spot.ensures c.args.table.now.held.laid.characters c.in-Some.is

second : (c : In-Some-entry_spot) → let a = c.args in let t = lent_table a.table.now in Spotted t (segment_of t a.k a.j) (element_of t a.k a.j) c.in-Some-entry_spot.y.at c.in-Some-entry_spot.y.left
second c = spotted _ _ _ _ c.entry_at-e.ensures.0 c.entry_spot-2.ensures c.args.table.now.held.laid.characters c.in-Some-entry_spot.is

pub returns-then-length : goal.returns-then-length
returns-then-length c = compared_no _ _ _ _ (record { texts = λ r s. parted _ _ _ _ _ _ r s (length_at _ _ _ _ _ c.entry_at-d.ensures.0 c.length.ensures) (length_at _ _ _ _ _ c.entry_at-e.ensures.0 c.length-2.ensures) c.if-length.true })

pub returns-in_default : goal.returns-in_default
returns-in_default c = compared_no _ _ _ _ (record { texts = λ r s. absurd (unspotted _ _ _ _ c.entry_at-d.ensures.0 c.entry_spot.ensures c.in_default.is r.resolved) })

pub returns-in_default-entry_spot : goal.returns-in_default-entry_spot
returns-in_default-entry_spot c = compared_no _ _ _ _ (record { texts = λ r s. absurd (unspotted _ _ _ _ c.entry_at-e.ensures.0 c.entry_spot-2.ensures c.in_default-entry_spot.is s.resolved) })

pub same-requires : goal.same-requires
same-requires c = ((first (goal.at.same-requires c).In-Some).fits, (second (goal.at.same-requires c).In-Some-entry_spot).fits)

pub returns : goal.returns
unfolding text_of
returns c =
    compared _ _ _ _ (same-texts _ _ _ _ _ _ _ _ _ (first (goal.at.returns c).In-Some) (second (goal.at.returns c).In-Some-entry_spot) c.same.ensures)
