use Prim.Native.Nat.{◌<◌}
use native.Mathlib.Omega.{arith}
use mathlib.Core.Path.{sym, ◌∙◌}
use Rattle.layout.specs.declared.Edition.TheVariants.{Bits64}
use Rattle.tree.proofs.Children.{node-fits, node_reached, child-name, child_fits}
use Rattle.print.proofs.Puts.{left_start, left_more, left_end, put_none, put_same}
use Rattle.outline.proofs.Rules.{tree_held, node_ready}
use Rattle.outline.proofs.Written.{put_two, ranged_start, ranged_next, ranged-past}
use Rattle.outline.proofs.Parts.{left_same, shown-live, shown-not, block_leaf, block_more, range_is}
use Rattle.outline.proofs.blocks.+write_node_write_range.Goals as goal
use Rattle.outline.proofs.blocks.+write_node_write_range.Goals.{write_range-then-node_name-ne0, write_range-else-node_name-ne0}

pub write_node-put_node-e-requires : goal.write_node-put_node-e-requires
write_node-put_node-e-requires t c =
    let p = c.requires in
    (node_ready c.args.source.now _ _ p.0 p.1 p.2, omega (arith, p.3))

pub write_node-returns-then-left-eq0 : goal.write_node-returns-then-left-eq0
write_node-returns-then-left-eq0 t c = put_same (block_leaf Bits64 _ _ _ _ c.requires.1 _ c.if-left-eq0.true) c.put_node-e.ensures

-- a buffer's length is a number of 64 bits, here and below
pub write_node-returns : goal.write_node-returns
write_node-returns t c =
    put_two (omega arith) c.put_node-e.ensures c.write_range.ensures (block_more Bits64 _ _ _ _ c.requires.1 _ c.if-left-eq0.false)

pub write_range-children_of-k-requires : goal.write_range-children_of-k-requires
write_range-children_of-k-requires t c =
    let p = c.requires in
    let e = c.nodes.ensures in
    let g = tree_held c.args.source.now in
    (rw e (node_reached g _ _ p.0 p.1), rw e (node-fits g _ _ p.0 p.1))

pub write_range-loop-j-init : goal.write_range-loop-j-init
write_range-loop-j-init t c =
    let e = range_is _ c.requires.1 (rw c.nodes.ensures at c.children_of-k.ensures) in
    left_start (omega arith) (omega arith) (ranged_start _ _ _ ∙ e _)

-- the child lies in the file, here and in the next answer
pub write_range-overflow_add-c : goal.write_range-overflow_add-c
write_range-overflow_add-c t c = omega (arith, child_fits (tree_held c.args.source.now) (rw c.nodes.ensures at c.children_of-k.ensures) c.loop-j.j (omega arith))

pub write_range-node_name-requires : goal.write_range-node_name-requires
write_range-node_name-requires t c = child_fits (tree_held c.args.source.now) (rw c.nodes.ensures at c.children_of-k.ensures) c.loop-j.j (omega arith)

pub write_range-loop-j-preserved : goal.write_range-loop-j-preserved
write_range-loop-j-preserved t c =
    let v = c.loop-j.invariant in
    let h : c.loop-j.j < c.children_of-k.result.count = omega arith in
    let n = child-name (tree_held c.args.source.now) (rw c.nodes.ensures at c.children_of-k.ensures) c.loop-j.j h c.node_name.ensures.0 in
    let g = ranged_next _ _ _ c.loop-j.j h in
    elim c.if-node_name-ne0.branch [
      | write_range-then-node_name-ne0 w ↦ left_same (left_more v (put_same (shown-live Bits64 _ _ _ (λ z. w.if-node_name-ne0.true (n ∙ z))) w.write_node-e.ensures) g) w.e-is w.out-is
      | write_range-else-node_name-ne0 w ↦ left_same (left_more v (put_same (shown-not Bits64 _ _ _ (sym n ∙ w.if-node_name-ne0.false)) (put_none _ _ v.low)) g) w.e-is w.out-is
    ]

pub write_range-returns : goal.write_range-returns
write_range-returns t c = left_end c.loop-j.invariant (ranged-past _ _ _ c.loop-j.j (omega arith))
