use native.Mathlib.Omega.{arith}
use mathlib.Core.Path.{refl}
use Rattle.nodes.specs.inner.Doubts.{doubt_of}
use Rattle.nodes.proofs.doubts.place.Goals as goal

pub returns : goal.returns
unfolding doubt_of
returns c = (refl, omega arith)
