use native.Mathlib.Omega.{arith}
use lib.Bits.{xor_lt}
use Rattle.hash.proofs.Linear.{quad_zeros}
use Rattle.hash.proofs.HashTables.quad_on.Goals as goal

pub bytes_on-requires : goal.bytes_on-requires
bytes_on-requires c = (omega arith, xor_lt 32 _ _ c.requires.0 c.requires.1)

pub returns : goal.returns
returns c = let p = c.requires in
    let e = c.bytes_on.ensures in
    let f = c.bytes_on-near.ensures in
    (cc (e.0, f.0, quad_zeros _ _ _ p.0 p.1 p.2), xor_lt 32 _ _ e.1 f.1)
