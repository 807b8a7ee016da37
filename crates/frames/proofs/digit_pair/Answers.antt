use mathlib.Core.Path.{◌∙◌}
use native.Mathlib.Omega.{arith}
use Rattle.frames.proofs.Digits.{value_inv}
use Rattle.frames.proofs.Pairs.{byte_high, byte_low, byte_both}
use Rattle.frames.proofs.digit_pair.Goals as goal

pub returns-in_err-high : goal.returns-in_err-high
returns-in_err-high c = c.from_residual.ensures ∙ byte_high _ _ c.in_err-high.ensures

pub returns-in_err-low : goal.returns-in_err-low
returns-in_err-low c = c.from_residual-in_err-low.ensures ∙ byte_low _ _ _ c.in_ok-high.ensures c.in_err-low.ensures

pub overflow_mul-result : goal.overflow_mul-result
overflow_mul-result c = let h = value_inv _ _ c.in_ok-high.ensures in record { fits = omega arith }

pub overflow_add-result : goal.overflow_add-result
overflow_add-result c = let h = value_inv _ _ c.in_ok-high.ensures in let l = value_inv _ _ c.in_ok-low.ensures in record { fits = omega arith }

pub returns : goal.returns
returns c = byte_both _ _ _ _ c.in_ok-high.ensures c.in_ok-low.ensures
