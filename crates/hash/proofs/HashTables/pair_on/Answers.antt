use native.Mathlib.Omega.{arith}
use mathlib.Core.Path.{sym, ◌∙◌}
use lib.Bits.{xor_lt}
use Rattle.hash.proofs.Linear.{pair_zeros}
use Rattle.hash.proofs.HashTables.pair_on.Goals as goal

pub bytes_on-requires : goal.bytes_on-requires
bytes_on-requires c = (omega arith, xor_lt 32 _ _ c.requires.0 c.requires.1)

pub returns : goal.returns
returns c = let p = c.requires in
    let e = c.bytes_on.ensures in
    (e.0 ∙ sym (pair_zeros _ _ p.0 p.1), e.1)
