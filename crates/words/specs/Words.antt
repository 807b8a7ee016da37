-- Key words and type words (FORMAT, "Nodes", "Attributes").
use Rattle.std.specs.Prelude.{ℕ, ◌/◌, ◌%◌}
use Rattle.words.specs.declared.AttributeType.{AttributeType}
use Rattle.words.specs.declared.AttributeType.TheVariants.{None, Whole, Float, Text}

-- In the key word the low four bits are the flags.
unfoldable pub flags_of : ℕ → ℕ
flags_of w = w % 16

-- The high twelve are the key index.
unfoldable pub key_index_of : ℕ → ℕ
key_index_of w = w / 16

-- The number of each type of attribute.
abbrev pub type_number : AttributeType → ℕ
type_number None = 0
type_number Whole = 1
type_number Float = 2
type_number Text = 3

-- In the type word the low two bits are the type.
unfoldable pub type_of : ℕ → ℕ
type_of w = w % 4

-- The rest is the extended code.
unfoldable pub extended_of : ℕ → ℕ
extended_of w = w / 4
