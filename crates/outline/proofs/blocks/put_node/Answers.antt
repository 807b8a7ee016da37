use native.Mathlib.Omega.{arith}
use Rattle.layout.specs.declared.Edition.TheVariants.{Bits64}
use Rattle.outline.proofs.Written.{put_four, line_is, node-named}
use Rattle.outline.proofs.blocks.put_node.Goals as goal

pub overflow_mul-level : goal.overflow_mul-level
overflow_mul-level c = omega (arith, c.requires.1)

pub node_name-requires : goal.node_name-requires
node_name-requires c = omega (arith, c.requires.0.fits)

pub put_name-d-requires : goal.put_name-d-requires
put_name-d-requires c = node-named Bits64 _ _ c.node_name.ensures.0 c.requires.0

-- a buffer's length is a number of 64 bits
pub returns : goal.returns
returns c = put_four (omega arith) c.put_spaces-c.ensures c.put_name-d.ensures c.put_attributes-e.ensures c.put.ensures (line_is Bits64 _ _ c.node_name.ensures.0 c.args.level)
