use mathlib.Core.Path.{refl}
use Rattle.words.proofs.Numbers.{tag-number, number-small}
use Rattle.words.proofs.AttributeType.number.Goals as goal

pub returns : goal.returns
returns c = let k = c.args.self in rw (tag-number k) (refl, number-small k)
