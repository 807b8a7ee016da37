use mathlib.Core.Path.{◌≡◌}
use mathlib.Core.Logic.{◌↔◌}
use Rattle.text.specs.Text.{text_in}
use Rattle.text.proofs.Walk.{text_from}
use Rattle.text.proofs.same.Given as goal

abbrev pub invariant-loop-i : goal.invariant-loop-i
invariant-loop-i l = (text_in l.b l.p l.m ≡ text_in l.b l.q l.n) ↔ (text_from l.b l.p l.m l.i ≡ text_from l.b l.q l.n l.i)
