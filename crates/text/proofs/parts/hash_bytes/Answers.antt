use Rattle.text.proofs.AsBytes.{bytes_whole}
use native.Mathlib.Omega.{arith}
use Rattle.std.proofs.lemmas.List.{take_rest}
use borrow.Author.Rules.{rules}
use Rattle.text.proofs.parts.hash_bytes.Goals as goal

pub returns : goal.returns
returns c = (bytes_whole _ (λ i. search rules) _ _ _ _ (omega arith) c.hash_chars-g.ensures.0 (rw take_rest at c.hash_each-2.ensures.0), c.hash_each-2.ensures.1)
