use Rattle.memo.proofs.Laws.{blank}
use Rattle.nodes.proofs.Noting.{blank_noted}
use Rattle.prefetch.proofs.all.check_nodes_in_batches.Goals as goal

pub find_doubts-requires : goal.find_doubts-requires
find_doubts-requires c = (c.requires, blank _ (blank_noted _))
