use Rattle.batch.proofs.Slots.{same_start}
use Rattle.batch.proofs.group.read_ends.Goals as goal

pub loop-j-init : goal.loop-j-init
loop-j-init c = same_start _
