use mathlib.Core.Path.{◌≡◌}
use Rattle.std.specs.Prelude.{Ok}
use Rattle.layout.specs.declared.Edition.TheVariants.{Bits64}
use Rattle.tree.specs.Marks.{cleared}
use Rattle.tree.proofs.Passing.{AtSegment, AtNode}
use Rattle.tree.proofs.marks.mark_nodes.Given as goal

abbrev pub invariant-loop-el : goal.invariant-loop-el
invariant-loop-el l = record { none : l.answer ≡ Ok tt; node : AtNode Bits64 l.nodes.file.now (cleared Bits64 l.nodes.file.now l.fn.ws) l.seg l.el l.ws }

abbrev pub invariant-segments : goal.invariant-segments
invariant-segments l = record { none : l.answer ≡ Ok tt; segment : AtSegment Bits64 l.nodes.file.now (cleared Bits64 l.nodes.file.now l.fn.ws) l.seg l.at l.ws }
