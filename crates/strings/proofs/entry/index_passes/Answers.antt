use Rattle.verdict.proofs.Laws.{tells_yes}
use Rattle.strings.proofs.entry.index_passes.Goals as goal

pub returns-then-known : goal.returns-then-known
returns-then-known c = let h = c.if-known.true in rw h (tells_yes (c.requires.1 h))
