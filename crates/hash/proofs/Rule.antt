-- T's rule, over the whole table, by one computed test. Assumes nothing.
use Prim.Native.Nat.{ℕ, ◌<◌}
use mathlib.Core.Path.{◌≡◌}
use mathlib.Core.Bool.{Bool}
use lib.Dec.{eqb, eqb→eq}
use lib.ListN.{get_or}
use Rattle.laws.proofs.Computed.{at}
use Rattle.hash.specs.Table.{T, entry_of, double, doubled, rule_of}

-- the test at entry i
right : ℕ → ℕ → Bool
right i x = eqb x (rule_of i)

pub rule : (i : ℕ) → i < 256 → entry_of i ≡ rule_of i
unfolding T entry_of right rule_of doubled double
rule i h = eqb→eq (get_or T i 0) (rule_of i) (at right T tt i h)
