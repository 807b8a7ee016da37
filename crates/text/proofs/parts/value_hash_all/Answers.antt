use Rattle.text.proofs.AsBytes.{value-kept}
use Rattle.text.proofs.parts.value_hash_all.Goals as goal

pub returns-then-n : goal.returns-then-n
returns-then-n c = value-kept _ _ _ c.fold_each.ensures c.low_14.ensures

pub returns : goal.returns
returns c = value-kept _ _ _ c.fold_fours.ensures c.low_14-2.ensures
