use Rattle.prefetch.proofs.Rights.{entry_in}
use mathlib.Core.Path.{refl}
use Rattle.prefetch.proofs.steps.found.Goals as goal

pub returns : goal.returns
returns c = λ z. entry_in _ c.value_word.ensures.2 _ _ refl _ _ c.bucket-k.ensures.1 c.value_word.ensures.0 (c.run_has.ensures.so z)
