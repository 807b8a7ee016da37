use Rattle.batch.proofs.Slots.{near_first, near_same}
use Rattle.batch.proofs.group.prefetch_texts.Goals as goal

pub returns-then-spread-clause-near : goal.returns-then-spread-clause-near
returns-then-spread-clause-near c = near_same (near_first _ _ _ _ c.args.checked.now.table.held _ _ _ c.requires.3) c.read_ends.ensures

pub returns-else-spread-clause-near : goal.returns-else-spread-clause-near
returns-else-spread-clause-near c = near_first _ _ _ _ c.args.checked.now.table.held _ _ _ c.requires.3
