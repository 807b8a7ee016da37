use mathlib.Core.Path.{refl}
use Rattle.words.specs.Words.{extended_of}
use Rattle.words.proofs.extended.Goals as goal

pub returns : goal.returns
unfolding extended_of
returns c = refl
