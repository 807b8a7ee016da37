use native.Mathlib.Omega.{arith}
use Rattle.layout.specs.declared.Edition.TheVariants.{Bits64}
use Rattle.outline.proofs.Written.{put_four, attribute_is, attribute-named}
use Rattle.outline.proofs.values.put_attribute.Goals as goal

pub put_name-d-requires : goal.put_name-d-requires
put_name-d-requires c = attribute-named Bits64 _ _ c.attribute_name.ensures.0 c.requires

-- a buffer's length is a number of 64 bits
pub returns : goal.returns
returns c = put_four (omega arith) c.put-c.ensures c.put_name-d.ensures c.put-e.ensures c.put_value.ensures (attribute_is Bits64 _ _ c.attribute_name.ensures.0)
