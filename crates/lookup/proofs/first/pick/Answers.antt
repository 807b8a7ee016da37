use Rattle.strings.specs.inner.Held.{Here}
use Rattle.strings.specs.inner.Lent.{lent_table}
use Rattle.strings.proofs.Places.{here_in}
use Rattle.lookup.proofs.Bucket.{Standing}
use Rattle.lookup.proofs.Picked.{resolved-at, long-read, stands, picked}
use native.Mathlib.Omega.{arith}
use Rattle.lookup.proofs.first.pick.Goals as goal
use Rattle.lookup.proofs.first.pick.Goals.{After-entry_at-e, After-text_at-text}

-- the entry is there
here : (c : After-entry_at-e) → let a = c.args in Here (lent_table a.checked.now.table) c.bucket-k.result a.low
here c = here_in _ _ _ _ c.bucket-k.ensures.1 c.entry_count.ensures c.if-entry_count-low.false

-- its text stands where it was located
found : (c : After-text_at-text) → let a = c.args in
    let t = lent_table a.checked.now.table in
    Here t c.bucket-k.result a.low → Standing t c.bucket-k.result a.low c.text_at-text.result a.n
found c h = let a = c.args.checked.now in stands _ _ _ _ a.checked h c.entry_at-e.ensures.0 _ c.length.ensures a.table.held.laid _ _ c.text_at-text.ensures c.if-length-n.false

pub overflow_sub-length : goal.overflow_sub-length
overflow_sub-length c = omega (arith, long-read _ _ _ _ c.args.checked.now.checked (here (goal.at.overflow_sub-length c).After-entry_at-e) c.entry_at-e.ensures.0 _ c.length.ensures)

pub text_at-text-requires : goal.text_at-text-requires
text_at-text-requires c = let a = c.args.checked.now in (a.table.held.chars, a.table.held.sampled, c.entry_at-e.ensures.1, resolved-at _ _ _ _ a.checked (here (goal.at.text_at-text-requires c).After-entry_at-e) c.entry_at-e.ensures.0)

pub overflow_mul-result : goal.overflow_mul-result
overflow_mul-result c = record { fits = omega (arith, (found (goal.at.overflow_mul-result c).After-text_at-text (here (goal.at.overflow_mul-result c).After-entry_at-e)).ends, c.args.checked.now.table.held.small) }

pub overflow_add-result : goal.overflow_add-result
overflow_add-result c = record { fits = omega (arith, (found (goal.at.overflow_add-result c).After-text_at-text (here (goal.at.overflow_add-result c).After-entry_at-e)).ends, c.args.checked.now.table.held.small) }

pub returns-clause-places : goal.returns-clause-places
returns-clause-places c =
    let f = found (goal.at.returns-clause-places c).After-text_at-text (here (goal.at.returns-clause-places c).After-entry_at-e) in
    (omega (arith, f.ends), omega (arith, f.ends))

pub returns-clause-bears : goal.returns-clause-bears
returns-clause-bears c = let a = c.args.checked.now in
    let h = here (goal.at.returns-clause-bears c).After-entry_at-e in
    picked _ _ _ _ a.checked h c.entry_at-e.ensures.0 _ c.length.ensures a.table.held.laid _ _ c.text_at-text.ensures c.if-length-n.false _ _ _ c.result_at.ensures
