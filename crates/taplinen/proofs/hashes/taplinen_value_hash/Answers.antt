use Rattle.lookup.specs.Lookup.{text_from}
use Rattle.taplinen.specs.Hashes.{value_hash_answer}
use Rattle.taplinen.proofs.hashes.taplinen_value_hash.Goals as goal

pub returns : goal.returns
unfolding value_hash_answer text_from
returns c = c.value_hash_all.ensures.0
