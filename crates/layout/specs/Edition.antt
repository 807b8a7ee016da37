-- What differs between the editions of the format: three numbers. FORMAT has those of the 64-bit edition ("Nodes", "Attributes").
use Rattle.std.specs.Prelude.{ℕ}
use Rattle.layout.specs.declared.Edition.{Edition}
use Rattle.layout.specs.declared.Edition.TheVariants.{Bits64}

-- The bytes of an attribute.
abbrev pub attribute_size : Edition → ℕ
attribute_size Bits64 = 12

-- The bytes of a node.
abbrev pub node_size : Edition → ℕ
node_size Bits64 = 24

-- Where in a node the address of its first child stands.
abbrev pub child_offset : Edition → ℕ
child_offset Bits64 = 16
