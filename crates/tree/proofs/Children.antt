-- What the code reads of a used node and of its children, in a file that is ready for the tree's checks. Assumes nothing.
use mathlib.Core.Path.{◌≡◌, sym, ap, subst, ◌∙◌}
use mathlib.Core.Logic.{⊎_elim}
use mathlib.Core.List.{List}
use Prim.Native.Nat.{ℕ, ◌+◌, ◌*◌, ◌/◌, ◌%◌, ◌≤◌, ◌<◌}
use native.Mathlib.Omega.{arith}
use lib.ListN.{length}
use Rattle.region.specs.Region.{range_at}
use Rattle.region.specs.inner.Samples.{Mapped, Starts}
use Rattle.region.specs.declared.Region.{Region}
use Rattle.std.specs.Prelude.{Some, None}
use Rattle.region.proofs.Laws.{place-fits, range_at_in, range-at-out}
use Rattle.layout.specs.Edition.{node_size}
use Rattle.layout.specs.Layout.{nodes_at}
use Rattle.layout.specs.declared.Edition.{Edition}
use Rattle.nodes.specs.Node.{node_name, child_segment, child_element, child_count, node_at}
use Rattle.nodes.specs.Rules.{NodesRules}
use Rattle.nodes.proofs.Accepted.{nodes_iff}
use Rattle.tree.specs.File.{node_of, Used, tree_of}
use Rattle.tree.specs.inner.Marking.{TreeReady, Reached}
use Rattle.tree.specs.inner.Children.{Row, ChildrenOf}
use Rattle.tree.specs.declared.ranges.Children.{Children}
use Rattle.tree.proofs.Addresses.{child-used, child-place}

-- x was read from a field, and is its number y
abbrev Field : ℕ → ℕ → Type 0
Field x y = (x ≡ y) × (x < 65536)

module _ {ed : Edition} {b : List ℕ} {r : Region} {segments : List ℕ} (g : TreeReady ed b r segments) where
  pub own_region : Mapped (node_size ed) b r.at r × Starts (node_size ed) b r.at r.shift segments
  own_region = subst (λ (x : ℕ). Mapped (node_size ed) b x r × Starts (node_size ed) b x r.shift segments) (sym g.nodes.at_is) (g.nodes, g.sampled)

  pub rules-hold : NodesRules ed b
  rules-hold = (nodes_iff ed b).0 g.accepted

  -- a used node lies in the file, and its child range resolves
  module _ (a p : ℕ) (u : Used ed b a) (q : p ≡ node_of ed b a) where
    pub node-fits : p + node_size ed ≤ length b
    unfolding node_of node_at
    node-fits = omega (arith, place-fits (node_size ed) b (nodes_at ed b) g.laid.nodes _ _ u)

    pub node_reached : Reached ed b p
    unfolding node_of
    node_reached = rw q (rules-hold.each (a / 65536) (a % 65536) u).children.reach

  -- the child range by its fields
  module _ (p : ℕ) {seg el n : ℕ} (s : Field seg (child_segment ed b p)) (e : Field el (child_element ed b p)) (c : n ≡ child_count b p) where
    row : (q : ℕ) → Row ed b (seg * 65536 + el) q n → ChildrenOf ed b p (record { first = seg * 65536 + el; place = q; count = n })
    row q h = record { first = rw (s.0, e.0); count = c; row = h }

    pub no_children : n ≡ 0 → ChildrenOf ed b p (record { first = seg * 65536 + el; place = 0; count = n })
    no_children z = row 0 (record { low = omega (arith, s.1, e.1); few = omega arith; node = λ j l. absurd (omega arith) })

    -- the code finds the range, for it resolves
    pub found-range : Reached ed b p → (n ≡ 0 → ⊥) → range_at (node_size ed) b r.at seg el n ≡ None → ⊥
    found-range h z w =
        range-at-out (node_size ed) b r.at seg el n w
        (rw (g.nodes.at_is, s.0, e.0, c) (⊎_elim (λ y. absurd (z (c ∙ y))) (λ y. y) h))

    pub children-at : n < 65536 → {x : ℕ} → range_at (node_size ed) b r.at seg el n ≡ Some x
        → ChildrenOf ed b p (record { first = seg * 65536 + el; place = x; count = n })
    unfolding node_at
    children-at f {x} h =
        let w = range_at_in (node_size ed) b (nodes_at ed b) seg el n (ap (λ (y : ℕ). range_at (node_size ed) b y seg el n) (sym g.nodes.at_is) ∙ h) in
        row x (record {
          low = omega (arith, s.1, e.1);
          few = f;
          node = λ j l. (
            child-used ed b g.laid.nodes seg el n j w.0 l,
            ap (λ (y : ℕ). y + j * node_size ed) w.1 ∙ sym (child-place ed b g.laid.nodes seg el n j w.0 l),
          );
        })

  -- the children stand in a row, each a used node
  module _ {p : ℕ} {k : Children} (h : ChildrenOf ed b p k) (j : ℕ) (l : j < k.count) where
    pub child-name : {x : ℕ} → x ≡ node_name b (k.place + j * node_size ed) → x ≡ (tree_of ed b).name (k.first + j)
    unfolding tree_of
    child-name e = e ∙ ap (node_name b) (h.row.node j l).1

    pub child_fits : k.place + j * node_size ed + node_size ed ≤ length b
    child_fits = let w = h.row.node j l in node-fits _ _ w.0 w.1

-- they are the node's in the tree
module _ {ed : Edition} {b : List ℕ} (a : ℕ) {p : ℕ} (q : p ≡ node_of ed b a) {k : Children} (h : ChildrenOf ed b p k) where
  pub first_is : k.first ≡ (tree_of ed b).first a
  unfolding tree_of
  first_is = rw q at h.first

  pub count_is : k.count ≡ (tree_of ed b).count a
  unfolding tree_of
  count_is = rw q at h.count
