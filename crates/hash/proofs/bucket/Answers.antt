use Prim.Native.Nat.{ℕ, ◌/◌, ◌%◌, ◌<◌}
use native.Mathlib.Nat.{mod-lt}
use native.Mathlib.Omega.{arith}
use mathlib.Core.Path.{◌≡◌, refl}
use lib.Bits.{bit_xor}
use Rattle.hash.specs.Hash.{bucket_of}
use Rattle.hash.proofs.bucket.Goals as goal

-- the bucket among n, where n is known to be m
among : (h n m : ℕ) → 0 < m → n ≡ m → (bit_xor h (h / 65536) % m ≡ bucket_of n h) × (bit_xor h (h / 65536) % m < n)
unfolding bucket_of
among h n m l e = rw e (refl, mod-lt _ l)

pub returns-then-n-eq1024 : goal.returns-then-n-eq1024
returns-then-n-eq1024 c = among _ _ 1024 (omega arith) c.if-n-eq1024.true

pub returns-then-n-eq512 : goal.returns-then-n-eq512
returns-then-n-eq512 c = among _ _ 512 (omega arith) c.if-n-eq512.true

pub returns : goal.returns
returns c = among _ _ _ c.requires refl
