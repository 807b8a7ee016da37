use Rattle.nodes.proofs.Noting.{hash-small}
use native.Mathlib.Omega.{arith}
use Rattle.prefetch.proofs.steps.hash_texts.Goals as goal

pub overflow_cast-hashes : goal.overflow_cast-hashes
overflow_cast-hashes c = record { fits = omega (arith, hash-small _ _ _ _ c.text_hash.ensures.answer) }
