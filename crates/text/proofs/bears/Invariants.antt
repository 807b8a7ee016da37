use mathlib.Core.Path.{◌≡◌}
use mathlib.Core.Logic.{◌↔◌}
use Rattle.text.specs.Text.{chars, text_in}
use Rattle.text.proofs.Walk.{chars_from, text_from}
use Rattle.text.proofs.bears.Given as goal

abbrev pub invariant-loop-i : goal.invariant-loop-i
invariant-loop-i l = (text_in l.b l.p l.n ≡ chars l.s 0 l.k) ↔ (text_from l.b l.p l.n l.i ≡ chars_from l.s 0 l.k l.i)
