use Prim.Native.Nat.{◌+◌, ◌*◌}
use Rattle.layout.specs.declared.Edition.TheVariants.{Bits64}
use Rattle.tree.specs.Chain.{ranged}
use Rattle.tree.specs.File.{tree_of}
use Rattle.print.proofs.Puts.{Left}
use Rattle.outline.specs.Outline.{shown, block}
use Rattle.outline.proofs.Written.{ranged_from}
use Rattle.outline.proofs.blocks.+write_node_write_range.Given as goal

abbrev pub decreases-write_node : goal.decreases-write_node
decreases-write_node l = 2 * l.left

abbrev pub decreases-write_range : goal.decreases-write_range
decreases-write_range l = 2 * l.left + 1

abbrev pub invariant-write_range-loop-j : goal.invariant-write_range-loop-j
invariant-write_range-loop-j l =
    Left l.initial.out l.at (ranged (shown Bits64 l.source.file.now (block Bits64 l.source.file.now l.left l.level)) ((tree_of Bits64 l.source.file.now).first l.a) ((tree_of Bits64 l.source.file.now).count l.a)) l.e
    (ranged_from (shown Bits64 l.source.file.now (block Bits64 l.source.file.now l.left l.level)) l.k.first l.k.count l.j) l.out
