use Rattle.text.specs.Text.{text_in}
use Rattle.print.specs.Text.{escaped}
use Rattle.print.proofs.Puts.{Left}
use Rattle.outline.proofs.Written.{text_from}
use Rattle.outline.proofs.texts.put_chars.Given as goal

abbrev pub invariant-loop-i : goal.invariant-loop-i
invariant-loop-i l = Left l.initial.out l.at (escaped (text_in l.b l.q l.n)) l.p (text_from l.b l.q l.n l.i) l.out
