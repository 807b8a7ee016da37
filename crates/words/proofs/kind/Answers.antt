use native.Mathlib.Omega.{arith}
use mathlib.Core.Path.{sym, ◌∙◌}
use lib.Bits.{and_mask, mask_lt}
use Rattle.words.specs.Words.{type_of}
use Rattle.words.proofs.kind.Goals as goal

pub returns-in-0 : goal.returns-in-0
unfolding type_of
returns-in-0 c = sym c.in-0.is ∙ and_mask c.args.w 2

pub returns-in-1 : goal.returns-in-1
unfolding type_of
returns-in-1 c = sym c.in-1.is ∙ and_mask c.args.w 2

pub returns-in-2 : goal.returns-in-2
unfolding type_of
returns-in-2 c = sym c.in-2.is ∙ and_mask c.args.w 2

pub returns-in_default : goal.returns-in_default
unfolding type_of
returns-in_default c = omega (arith, and_mask c.args.w 2, mask_lt c.args.w 2, c.in_default)
