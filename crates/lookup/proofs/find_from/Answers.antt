use Rattle.lookup.proofs.Told.{entry-inside, entry-told}
use Rattle.lookup.proofs.ByKind.{other_told}
use Rattle.lookup.proofs.find_from.Goals as goal

pub result_at-requires : goal.result_at-requires
result_at-requires c = let a = c.args.checked.now in entry-inside _ _ a.checked c.find_entry.ensures _ c.in-Found.is _ a.table.held.laid

pub returns-in-Found : goal.returns-in-Found
returns-in-Found c = entry-told _ _ c.args.checked.now.checked c.find_entry.ensures _ c.in-Found.is _ _ c.result_at.ensures

pub returns-in_default : goal.returns-in_default
returns-in_default c = other_told _ _ _ c.args.checked.now.checked _ c.find_entry.ensures c.in_default.not-Found
