-- Attributes (FORMAT, "Attributes"): the fields of the attribute at offset q, and the value read out.
use Rattle.std.specs.Prelude.{ℕ, ◌+◌, ◌-◌, ◌≤◌, ◌≡◌, cond, List, ◌⊎◌, eqb, ltb, ℤ, pos, negsuc}
use Rattle.le.specs.Le.{u16_at, u32_at}
use Rattle.le.specs.Floats.{single_of}
use Rattle.words.specs.Words.{type_of, extended_of}
use Rattle.nodes.specs.declared.value.Value.{Value}
use Rattle.nodes.specs.declared.value.Value.TheVariants.{Whole, Truth, Float, Text}

-- Name u16, type word u16, 4 value bytes. In 64 bit 4 ignored bytes follow.
unfoldable pub attribute_name : List ℕ → ℕ → ℕ
attribute_name b q = u16_at b q

unfoldable pub type_word : List ℕ → ℕ → ℕ
type_word b q = u16_at b (q + 2)

unfoldable pub value_word : List ℕ → ℕ → ℕ
value_word b q = u32_at b (q + 4)

-- A text value is an address: segment, element.
unfoldable pub text_segment : List ℕ → ℕ → ℕ
text_segment b q = u16_at b (q + 4)

unfoldable pub text_element : List ℕ → ℕ → ℕ
text_element b q = u16_at b (q + 6)

-- The types are 1, 2 and 3. Type 1: extended 0 is whole, 1 is truth and the whole word is 0 or 1. Type 2: extended 0, any bits.
-- Type 3: extended is the value hash, which 19 looks at.
unfoldable pub Typed : List ℕ → ℕ → Type 0
Typed b q =
    ((type_of (type_word b q) ≡ 1) × ((extended_of (type_word b q) ≡ 0) ⊎ ((extended_of (type_word b q) ≡ 1) × (value_word b q ≤ 1))))
    ⊎ (((type_of (type_word b q) ≡ 2) × (extended_of (type_word b q) ≡ 0)) ⊎ (type_of (type_word b q) ≡ 3))

-- A word read as a signed 32-bit number.
unfoldable pub signed_of : ℕ → ℤ
signed_of w = cond (ltb w 0x8000_0000) (pos w) (negsuc (0xffff_ffff - w))

-- The value read out of an attribute that passed 18: a whole number, a truth, a float, or a text address: segment, element.
unfoldable pub value_of : List ℕ → ℕ → Value
value_of b q =
    cond (eqb (type_of (type_word b q)) 1)
    (cond (eqb (extended_of (type_word b q)) 0) (Whole (signed_of (value_word b q))) (Truth (eqb (value_word b q) 1)))
    (cond (eqb (type_of (type_word b q)) 2) (Float (single_of (value_word b q))) (Text (text_segment b q) (text_element b q)))
