use mathlib.Core.Path.{ap, sym, ◌∙◌}
use mathlib.Core.Logic.{⊎_elim}
use native.Mathlib.Omega.{arith}
use Rattle.hash.specs.Fold.{loses, folded}
use Rattle.std.proofs.lemmas.Bool.Decides.{nat_tests}
use Rattle.hash.proofs.fold_any.Goals as goal

pub returns-in-156 : goal.returns-in-156
unfolding folded
returns-in-156 c = (sym (ap folded c.in-156.is), omega arith)

pub returns-in-255 : goal.returns-in-255
unfolding folded
returns-in-255 c = (sym (ap folded c.in-255.is), omega arith)

pub returns-in-240 : goal.returns-in-240
unfolding folded loses
returns-in-240 c = (⊎_elim (λ e. e ∙ sym (ap folded e)) (λ e. e ∙ sym (ap folded e)) c.in-240.is, c.requires)

pub returns-in-97-to-122 : goal.returns-in-97-to-122
unfolding folded loses
returns-in-97-to-122 c = (grind (arith, nat_tests), omega arith)

pub returns-in_default : goal.returns-in_default
unfolding folded loses
returns-in_default c = (grind (arith, nat_tests), omega arith)

pub returns-in_default-2 : goal.returns-in_default-2
unfolding folded loses
returns-in_default-2 c = (grind (arith, nat_tests), omega arith)

pub returns-in_default-3 : goal.returns-in_default-3
unfolding folded loses
returns-in_default-3 c = (grind (arith, nat_tests), omega arith)
