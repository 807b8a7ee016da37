-- Nodes by number: segment and element of an address, and the elements of a child range. Assumes nothing.
use Prim.Native.Nat.{ℕ, ◌+◌, ◌*◌, ◌/◌, ◌%◌, ◌<◌}
use native.Mathlib.Omega.{arith}
use mathlib.Core.Path.{◌≡◌, ◌∙◌}
use mathlib.Core.Logic.{⊎_elim}
use mathlib.Core.List.{List}
use Rattle.region.specs.Region.{Resolves, Ranges, Laid}
use Rattle.region.proofs.Laws.{range-each, place-row}
use Rattle.layout.specs.Edition.{node_size}
use Rattle.layout.specs.Layout.{nodes_at}
use Rattle.layout.specs.declared.Edition.{Edition}
use Rattle.nodes.specs.Node.{child_segment, child_element, child_count, node_at}
use Rattle.nodes.specs.Rules.{NodesRules}
use Rattle.tree.specs.Chain.{child}
use Rattle.tree.specs.File.{address, node_of, Used, tree_of}

pub address_seg : (seg el : ℕ) → el < 65536 → address seg el / 65536 ≡ seg
address_seg seg el h = omega arith

pub address_el : (seg el : ℕ) → el < 65536 → address seg el % 65536 ≡ el
address_el seg el h = omega arith

-- a number is the address of its segment and element
pub address-of : (a : ℕ) → address (a / 65536) (a % 65536) ≡ a
address-of a = omega arith

module _ (ed : Edition) (b : List ℕ) where
  pub node-of : (seg el : ℕ) → el < 65536 → node_of ed b (address seg el) ≡ node_at ed b seg el
  unfolding node_of
  node-of seg el h = rw (address_seg seg el h, address_el seg el h)

  module _ (g : Laid (node_size ed) b (nodes_at ed b)) where
    -- an address that resolves has a small element
    pub small-element : (seg el : ℕ) → Resolves (node_size ed) b (nodes_at ed b) seg el → el < 65536
    small-element seg el h = omega (arith, h.el_in, g.used seg h.seg_in, g.full seg h.seg_in)

    pub used-of : (seg el : ℕ) → Resolves (node_size ed) b (nodes_at ed b) seg el → Used ed b (address seg el)
    used-of seg el h =
        let l = small-element seg el h in
        rw (address_seg seg el l, address_el seg el l) h

    -- the elements of a range are used nodes, and stand in a row
    pub child-used : (seg el n j : ℕ) → Ranges (node_size ed) b (nodes_at ed b) seg el n → j < n → Used ed b (address seg el + j)
    child-used seg el n j h l =
        let e : address seg el + j ≡ address seg (el + j) = omega arith in
        rw e (used-of seg (el + j) (range-each (node_size ed) b (nodes_at ed b) seg el n j h l))

    pub child-place : (seg el n j : ℕ) → Ranges (node_size ed) b (nodes_at ed b) seg el n → j < n → node_of ed b (address seg el + j) ≡ node_at ed b seg el + j * node_size ed
    unfolding node_at
    child-place seg el n j h l =
        let e : address seg el + j ≡ address seg (el + j) = omega arith in
        rw e (node-of seg (el + j) (small-element seg (el + j) (range-each (node_size ed) b (nodes_at ed b) seg el n j h l)) ∙ place-row (node_size ed) b (nodes_at ed b) seg el j)

    -- the same of the child range of a used node, of a file whose nodes obey their rules
    module _ (r : NodesRules ed b) (a : ℕ) (u : Used ed b a) where
      pub range-of : (j : ℕ) → j < child_count b (node_of ed b a)
          → Ranges (node_size ed) b (nodes_at ed b) (child_segment ed b (node_of ed b a)) (child_element ed b (node_of ed b a)) (child_count b (node_of ed b a))
      unfolding node_of
      range-of j l = ⊎_elim (λ z. absurd (omega arith)) (λ h. h) (r.each (a / 65536) (a % 65536) u).children.reach

      pub used-child : (j : ℕ) → j < (tree_of ed b).count a → Used ed b (child (tree_of ed b) a j)
      unfolding tree_of
      used-child j l = child-used _ _ _ j (range-of j l) l
