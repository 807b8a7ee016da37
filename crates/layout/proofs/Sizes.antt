-- Bounds on the sizes in every edition. Laws use these where they need a number; no other law goes by cases on the edition. `child_in` and
-- `sizes_most` are for the code, once it has its sizes as parameters. Assumes nothing.
use Prim.Native.Nat.{ℕ, ◌+◌, ◌*◌, ◌≤◌}
use native.Mathlib.Nat.{mul-le-mul_left}
use native.Mathlib.Omega.{arith}
use Rattle.layout.specs.Edition.{attribute_size, node_size, child_offset}
use Rattle.layout.specs.declared.Edition.{Edition}
use Rattle.layout.specs.declared.Edition.TheVariants.{Bits64}

-- an attribute has room for its fields: name, type word and value
pub attribute-least : (ed : Edition) → 8 ≤ attribute_size ed
attribute-least Bits64 = omega arith

-- a node has room for its fields: name, key word, two counts and two addresses
pub node-least : (ed : Edition) → 16 ≤ node_size ed
node-least Bits64 = omega arith

-- its child address lies in it
pub child_in : (ed : Edition) → child_offset ed + 4 ≤ node_size ed
child_in Bits64 = omega arith

-- a region is scanned and mapped for elements of at most 24 bytes
pub sizes_most : (ed : Edition) → (attribute_size ed ≤ 24) × (node_size ed ≤ 24)
sizes_most Bits64 = (omega arith, omega arith)

-- n nodes take at least 16 bytes each
pub nodes_wide : (ed : Edition) (n : ℕ) → n * 16 ≤ n * node_size ed
nodes_wide ed n = mul-le-mul_left n (node-least ed)
