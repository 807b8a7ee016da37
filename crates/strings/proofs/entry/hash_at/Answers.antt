use Rattle.strings.proofs.Places.{hash_at}
use Rattle.strings.proofs.entry.hash_at.Goals as goal

pub returns : goal.returns
returns c = hash_at _ _ _ _ _ c.entry_at.ensures.0 c.hash.ensures.0
