use native.Mathlib.Omega.{arith}
use Rattle.std.proofs.lemmas.Bool.Decides.{nat_tests}
use Rattle.print.specs.Text.{plain}
use Rattle.print.proofs.chars.is_plain.Goals as goal

pub returns-in-34 : goal.returns-in-34
unfolding plain
returns-in-34 c = grind (arith, nat_tests)

pub returns-in_default : goal.returns-in_default
unfolding plain
returns-in_default c = grind (arith, nat_tests)

pub returns-in_default-2 : goal.returns-in_default-2
unfolding plain
returns-in_default-2 c = grind (arith, nat_tests)

pub returns-in-33-to-126 : goal.returns-in-33-to-126
unfolding plain
returns-in-33-to-126 c = grind (arith, nat_tests)

pub returns-in-33-to-126-2 : goal.returns-in-33-to-126-2
unfolding plain
returns-in-33-to-126-2 c = grind (arith, nat_tests)
