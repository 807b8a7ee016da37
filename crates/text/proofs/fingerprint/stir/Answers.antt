use Rattle.text.specs.inner.Fingerprint.{stirred}
use mathlib.Core.Path.{refl}
use native.Mathlib.Omega.{arith}
use Rattle.text.proofs.fingerprint.stir.Goals as goal

pub returns : goal.returns
unfolding stirred
returns c = (refl, omega arith)
