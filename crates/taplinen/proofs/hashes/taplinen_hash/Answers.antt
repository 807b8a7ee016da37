use Rattle.taplinen.specs.Hashes.{hash_answer}
use Rattle.taplinen.proofs.hashes.taplinen_hash.Goals as goal

pub returns : goal.returns
unfolding hash_answer
returns c = c.hash_bytes.ensures.0
