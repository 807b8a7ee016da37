use mathlib.Core.Path.{refl}
use Rattle.words.specs.Words.{key_index_of}
use Rattle.words.proofs.key_index.Goals as goal

pub returns : goal.returns
unfolding key_index_of
returns c = refl
