use mathlib.Core.Path.{ap, ◌∙◌}
use Rattle.hash.specs.Fold.{value_hash_of}
use Rattle.text.proofs.value_hash.Goals as goal

pub returns-in-Break : goal.returns-in-Break
returns-in-Break c = (c.value_run.ensures.met _ c.in-Break.is).0

pub returns-in-Continue : goal.returns-in-Continue
returns-in-Continue c = c.low_14.ensures ∙ ap value_hash_of (c.value_run.ensures.passed _ c.in-Continue.is).0
