use native.Mathlib.Omega.{arith}
use Rattle.verdict.proofs.Laws.{tells_yes}
use Rattle.nodes.proofs.attribute.text_passes.Goals as goal

pub returns-then-not-doubted-clause-answer : goal.returns-then-not-doubted-clause-answer
returns-then-not-doubted-clause-answer c = let h = c.doubted.ensures.not c.if-not-doubted.true in
    tells_yes (c.requires.1.right (omega (arith, h)))
