use Rattle.path.proofs.Formed.{Live}
use Rattle.path.proofs.names.name_length.Given as goal

abbrev pub invariant-loop-k : goal.invariant-loop-k
invariant-loop-k l = Live l.path l.at l.k
