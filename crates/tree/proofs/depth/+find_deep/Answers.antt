use Prim.Native.Nat.{ℕ, ◌+◌, ◌*◌, ◌≤◌}
use mathlib.Core.Path.{◌≡◌, sym, ap, ◌∙◌}
use native.Mathlib.Omega.{arith}
use lib.ListN.{length}
use Rattle.layout.specs.Edition.{node_size}
use Rattle.layout.specs.declared.Edition.TheVariants.{Bits64}
use Rattle.tree.specs.File.{tree_of}
use Rattle.std.specs.Prelude.{Some}
use Rattle.tree.proofs.Deepest.{deep_here, deep_open, deep_end, deep_hit, deep_miss, deep_skip}
use Rattle.tree.proofs.Children.{node-fits, node_reached, child-name, child_fits, first_is, count_is}
use Rattle.tree.proofs.depth.+find_deep.Goals as goal
use Rattle.tree.proofs.depth.+find_deep.Goals.{In-loop-j, After-node_name, then-node_name-ne0+in_default, else-node_name-ne0}

pub returns-then-left-eq0 : goal.returns-then-left-eq0
returns-then-left-eq0 t c = ap Some c.requires.1 ∙ sym (deep_here Bits64 _ _ _ c.if-left-eq0.true)

pub children_of-k-requires : goal.children_of-k-requires
children_of-k-requires t c = let y = c.args.nodes.now.ready in
    let p = c.requires in
    (node_reached y _ _ p.0 p.1, node-fits y _ _ p.0 p.1)

pub loop-j-init : goal.loop-j-init
loop-j-init t c = let k = c.children_of-k.ensures in
    deep_open Bits64 _ _ _ _ _ c.if-left-eq0.false (first_is _ c.requires.1 k) (count_is _ c.requires.1 k)

-- the child lies in the file
child : (t : ℕ) (c : In-loop-j t)
    → c.children_of-k.result.place + c.loop-j.j * node_size Bits64 + node_size Bits64 ≤ length c.args.nodes.now.file.now
child t c = child_fits c.args.nodes.now.ready c.children_of-k.ensures c.loop-j.j (omega arith)

-- the name read is the child's
named : (t : ℕ) (c : After-node_name t)
    → c.node_name.result ≡ (tree_of Bits64 c.args.nodes.now.file.now).name (c.children_of-k.result.first + c.loop-j.j)
named t c = child-name c.args.nodes.now.ready c.children_of-k.ensures c.loop-j.j (omega arith) c.node_name.ensures.0

pub overflow_add-c : goal.overflow_add-c
overflow_add-c t c = record { fits = omega (arith, child t (goal.at.overflow_add-c t c).In-loop-j) }

pub node_name-requires : goal.node_name-requires
node_name-requires t c = omega (arith, child t (goal.at.node_name-requires t c).In-loop-j)

pub returns-in-Some : goal.returns-in-Some
returns-in-Some t c = let l = c.loop-j in
    sym
    (l.invariant
    ∙ deep_hit Bits64 _ _ _ _ l.j (omega arith) _ (λ z. c.if-node_name-ne0.true (named t (goal.at.returns-in-Some t c).After-node_name ∙ z)) (sym c.find_deep.ensures ∙ c.in-Some.is))

pub loop-j-preserved : goal.loop-j-preserved
loop-j-preserved t c = let l = c.loop-j in
    let n = named t (goal.at.loop-j-preserved t c).After-node_name in
    l.invariant
    ∙ elim c.if-node_name-ne0.branch [
      | then-node_name-ne0+in_default w ↦ deep_miss Bits64 _ _ _ _ l.j (omega arith) (λ z. w.if-node_name-ne0.true (n ∙ z)) (sym w.find_deep.ensures ∙ w.in_default.is)
      | else-node_name-ne0 w ↦ deep_skip Bits64 _ _ _ _ l.j (omega arith) (sym n ∙ w.if-node_name-ne0.false)
    ]

pub returns : goal.returns
returns t c = sym (c.loop-j.invariant ∙ deep_end Bits64 _ _ _ _ (omega arith))
