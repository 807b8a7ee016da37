use mathlib.Core.Path.{sym, ◌∙◌}
use Rattle.hash.proofs.Linear.{char_zeros}
use Rattle.hash.proofs.Lent.{one_step}
use Rattle.hash.proofs.Laws.{char_lt}
use Rattle.hash.proofs.HashTables.char_on.Goals as goal

pub returns : goal.returns
returns c = let e = one_step _ c.args.self.now.made _ _ _ _ _ c.low.ensures.0 c.low-2.ensures.0 c.wide.ensures.0 c.wide-2.ensures.0
    ∙ sym (char_zeros _ _ c.requires.0 c.requires.1) in
    (e, rw e (char_lt _ _ c.requires.0))
