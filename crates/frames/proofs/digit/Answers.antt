use mathlib.Core.Logic.{inl, inr}
use native.Mathlib.Omega.{arith}
use Rattle.frames.proofs.Digits.{value-number, value-letter, value-other}
use Rattle.frames.proofs.digit.Goals as goal

pub returns-in-48-to-57 : goal.returns-in-48-to-57
returns-in-48-to-57 c = value-number _ (omega arith) (omega arith)

pub returns-in-97-to-102 : goal.returns-in-97-to-102
returns-in-97-to-102 c = value-letter _ (omega arith) (omega arith)

pub returns-in_default : goal.returns-in_default
returns-in_default c = value-other _ (inl (omega arith)) (inl (omega arith))

pub returns-in_default-2 : goal.returns-in_default-2
returns-in_default-2 c = value-other _ (inr (omega arith)) (inl (omega arith))

pub returns-in_default-3 : goal.returns-in_default-3
returns-in_default-3 c = value-other _ (inr (omega arith)) (inr (omega arith))
