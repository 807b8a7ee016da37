use Rattle.outline.proofs.Rules.{tree_held}
use Rattle.outline.proofs.source.Source.nodes.Goals as goal

pub invariant_of-result : goal.invariant_of-result
invariant_of-result c = record { ready = tree_held c.args.self.now }
