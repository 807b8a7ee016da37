use mathlib.Core.Path.{sym}
use Rattle.lookup.specs.Lookup.{text_from}
use Rattle.lookup.proofs.Found.{unborne-zero, unborne-none, unborne-some}
use native.Mathlib.Omega.{arith}
use Rattle.lookup.proofs.unborne.Goals as goal

pub returns-then-count-eq0 : goal.returns-then-count-eq0
returns-then-count-eq0 c = sym (unborne-none _ _ _ c.if-count-eq0.true)

pub returns-then-holds_zero : goal.returns-then-holds_zero
unfolding text_from
returns-then-holds_zero c = sym (unborne-zero _ _ _ (c.holds_zero.ensures.so c.if-holds_zero.true))

pub returns : goal.returns
unfolding text_from
returns c = sym (unborne-some _ _ _ (c.holds_zero.ensures.not c.if-holds_zero.false) (omega (arith, c.if-count-eq0.false)))
