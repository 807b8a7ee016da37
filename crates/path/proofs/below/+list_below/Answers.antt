use Prim.Native.Nat.{ℕ, ◌+◌, ◌*◌, ◌≤◌}
use mathlib.Core.Path.{◌≡◌, refl, sym, ap, ◌∙◌}
use native.Mathlib.Omega.{arith}
use lib.ListN.{length}
use Rattle.layout.specs.Edition.{node_size}
use Rattle.layout.specs.declared.Edition.TheVariants.{Bits64}
use Rattle.tree.specs.Chain.{ranged}
use Rattle.tree.specs.File.{tree_of}
use Rattle.tree.proofs.Children.{node-fits, node_reached, child-name, child_fits, first_is, count_is}
use Rattle.path.proofs.Turns.{indices-split, at_end, whole, range_hit, range_skip, hit_le}
use Rattle.path.proofs.Written.{wrote_none, wrote_one, wrote_not, wrote_same, wrote_then}
use Rattle.path.proofs.below.+list_below.Goals as goal
use Rattle.path.proofs.below.+list_below.Goals.{In-loop-j, After-node_name, then-k-list, else-k-list, then-node_name-name, else-node_name-name}

-- the child lies in the file
child : (t : ℕ) (c : In-loop-j t)
    → c.children_of-c.result.place + c.loop-j.j * node_size Bits64 + node_size Bits64 ≤ length c.args.nodes.now.file.now
child t c = child_fits c.args.nodes.now.ready c.children_of-c.ensures c.loop-j.j (omega arith)

-- the name read is the child's
named : (t : ℕ) (c : After-node_name t)
    → c.node_name.result ≡ (tree_of Bits64 c.args.nodes.now.file.now).name (c.children_of-c.result.first + c.loop-j.j)
named t c = child-name c.args.nodes.now.ready c.children_of-c.ensures c.loop-j.j (omega arith) c.node_name.ensures.0

pub returns-in_default : goal.returns-in_default
returns-in_default t c =
    wrote_same
    (elim c.if-k-list.branch [
      | then-k-list w ↦ wrote_one _ _ _ w.if-k-list.true (w.list-is ∙ w.put_u32.ensures)
      | else-k-list w ↦ wrote_not _ _ _ w.if-k-list.false w.list-is
    ])
    (at_end Bits64 _ _ _ c.in_default.len_below) refl refl

pub children_of-c-requires : goal.children_of-c-requires
children_of-c-requires t c = let p = c.requires.used in
    (node_reached c.args.nodes.now.ready _ _ p.0 p.1, node-fits c.args.nodes.now.ready _ _ p.0 p.1)

pub loop-j-init : goal.loop-j-init
unfolding ranged
loop-j-init t c = wrote_none _ _

pub overflow_add-x : goal.overflow_add-x
overflow_add-x t c = record { fits = omega (arith, child t (goal.at.overflow_add-x t c).In-loop-j) }

pub node_name-requires : goal.node_name-requires
node_name-requires t c = omega (arith, child t (goal.at.node_name-requires t c).In-loop-j)

pub list_below-m-requires : goal.list_below-m-requires
list_below-m-requires t c =
    let l = c.loop-j in
    let k = c.children_of-c.ensures in
    let w = k.row.node l.j (omega arith) in
    let e = sym (named t (goal.at.list_below-m-requires t c).After-node_name) ∙ c.if-node_name-name.true in
    let p = c.requires.used in
    let q = c.requires.few in
    let s = indices-split c.args.wanted.now c.in-len1-up.len_at_least c.wide-name.ensures.0 in
    let h = hit_le Bits64 c.args.nodes.now.file.now _ _ s c.args.a (first_is _ p.1 k) (count_is _ p.1 k) l.j (omega arith) e in
    (omega (arith, c.decreases, ap length s), (w, (omega (arith, q.0, ap length s), omega (arith, l.invariant.next_is, q.1))))

pub loop-j-preserved : goal.loop-j-preserved
loop-j-preserved t c =
    let l = c.loop-j in
    let n = named t (goal.at.loop-j-preserved t c).After-node_name in
    elim c.if-node_name-name.branch [
      | then-node_name-name w ↦
          wrote_same (wrote_then l.invariant w.list_below-m.ensures) (range_hit Bits64 c.args.nodes.now.file.now _ _ _ l.j (sym n ∙ w.if-node_name-name.true)) w.m-is w.list-is
      | else-node_name-name w ↦ wrote_same l.invariant (range_skip Bits64 c.args.nodes.now.file.now _ _ _ l.j (λ z. w.if-node_name-name.false (n ∙ z))) w.m-is w.list-is
    ]

pub returns : goal.returns
returns t c =
    let k = c.children_of-c.ensures in
    let q = c.requires.used.1 in
    wrote_same c.loop-j.invariant
    (whole Bits64 _ _ _ (indices-split c.args.wanted.now c.in-len1-up.len_at_least c.wide-name.ensures.0) _ (first_is _ q k) (count_is _ q k) c.loop-j.j (omega arith)) refl refl
