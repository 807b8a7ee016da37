use native.Mathlib.Omega.{arith}
use Rattle.strings.proofs.Differing.{within_none, within-some}
use Rattle.strings.proofs.apart.away_from.Goals as goal

pub returns-then-span-j : goal.returns-then-span-j
returns-then-span-j c = within_none _ _ _

pub returns-then-j-span : goal.returns-then-j-span
returns-then-j-span c = within-some _ _ _ (omega (arith, c.if-span-j.false)) c.if-j-span.true

pub returns : goal.returns
returns c = within_none _ _ _
