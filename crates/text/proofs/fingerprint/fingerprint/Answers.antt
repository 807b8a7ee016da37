use Prim.Native.Nat.{◌/◌}
use mathlib.Core.Path.{◌≡◌}
use Rattle.text.proofs.Stirred.{stirring_start, stirring_next, stirring_one, stirring_none}
use native.Mathlib.Omega.{arith}
use borrow.Author.Rules.{rules}
use Rattle.text.proofs.fingerprint.fingerprint.Goals as goal

pub loop-k-init : goal.loop-k-init
loop-k-init c = stirring_start _ _ _

pub stir-g-requires : goal.stir-g-requires
stir-g-requires c = (c.loop-k.invariant.small, c.u32_at.ensures.1)

pub loop-k-preserved : goal.loop-k-preserved
loop-k-preserved c = stirring_next _ _ _ _ _ c.loop-k.invariant _ _ _ (λ i. search rules) (omega arith) c.u32_at.ensures.0 c.stir-g.ensures (omega arith)

pub stir-requires : goal.stir-requires
stir-requires c = (c.loop-k.invariant.small, omega (arith, c.u16_at.ensures.1))

pub returns-then-i-n : goal.returns-then-i-n
returns-then-i-n c = let e = c.stir.ensures in
    let k : c.loop-k.k ≡ c.args.n / 2 = omega arith in
    (stirring_one _ _ _ _ _ (rw k at c.loop-k.invariant) _ _ c.if-i-n.true (λ z. omega arith) c.u16_at.ensures.0 e.0, omega (arith, e.1))

pub returns : goal.returns
returns c = (stirring_none _ _ _ _ _ c.loop-k.invariant (λ z. omega arith), omega (arith, c.loop-k.invariant.small))
