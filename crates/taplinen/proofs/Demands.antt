-- The three demands hold. Assumes nothing.
use Rattle.layout.specs.declared.Edition.{Edition}
use Rattle.accept.proofs.Given.{accepted_gives}
use Rattle.taplinen.specs.Demands.{Demands}
use Rattle.taplinen.proofs.Demand1.{numbers, accepts_first, untouched}
use Rattle.taplinen.proofs.DemandBuffers.{workspace, same_length}
use Rattle.taplinen.proofs.Demand2.{accept-zero, acceptance, reports, lookups}
use Rattle.taplinen.proofs.Demand3.{malformed, batch, paths, outlines}

pub demands : (ed : Edition) → Demands ed
demands ed = record {
  numbers = numbers ed;
  accepts_first = accepts_first ed;
  malformed = λ b room q z. malformed ed b room z q;
  untouched = untouched ed;
  same_length = same_length ed;
  workspace = workspace ed;
  acceptance = acceptance ed;
  header = reports ed;
  lookups = lookups ed;
  batches = λ b room q d z w. batch ed b room z q d w;
  one-chain = λ b room z. (accepted_gives ed b room (accept-zero ed b room z)).tree.one-chain;
  paths = λ b room q d z w. paths ed b room z q d w;
  outlines = λ b room d z. outlines ed b room z d;
}
