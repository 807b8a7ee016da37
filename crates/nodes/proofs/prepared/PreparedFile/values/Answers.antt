use Rattle.nodes.specs.inner.Held.{value_strings}
use Rattle.nodes.proofs.prepared.PreparedFile.values.Goals as goal

pub invariant_of-table : goal.invariant_of-table
unfolding value_strings
invariant_of-table c = record { held = c.args.self.now.ready.strings }
