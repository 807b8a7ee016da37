-- Running numbers: where the nodes of a child range stand in the workspace. Assumes nothing.
use Prim.Native.Nat.{ℕ, ◌+◌, ◌≤◌, ◌<◌}
use native.Mathlib.Omega.{arith}
use mathlib.Core.Path.{◌≡◌, refl, sym, ap, ◌∙◌}
use mathlib.Core.Logic.{◌⊎◌, inl, inr, ⊎_elim}
use mathlib.Core.List.{List}
use Rattle.region.specs.Region.{Resolves, Laid, number_of, before_of}
use Rattle.region.proofs.Laws.{range-each, range-numbers, number-row, number_same}
use Rattle.layout.specs.Edition.{node_size}
use Rattle.layout.specs.Layout.{nodes_at}
use Rattle.layout.specs.declared.Edition.{Edition}
use Rattle.nodes.specs.Node.{child_segment, child_element, child_count}
use Rattle.nodes.specs.Rules.{NodesRules}
use Rattle.tree.specs.Chain.{child}
use Rattle.tree.specs.File.{address, node_of, Used, tree_of, used_node_count}
use Rattle.tree.specs.inner.Marking.{Reached, first_number}
use Rattle.tree.proofs.Addresses.{small-element, range-of}

-- number 0 is node 0:0
pub root-number : (ed : Edition) (b : List ℕ) → number_of (node_size ed) b (nodes_at ed b) 0 0 ≡ 0
unfolding number_of before_of
root-number ed b = refl

-- a child range lies in the first U bytes
pub range-room : (ed : Edition) (b : List ℕ) (p : ℕ) → Reached ed b p → (child_count b p ≡ 0) ⊎ (first_number ed b p + child_count b p ≤ used_node_count ed b)
unfolding first_number used_node_count
range-room ed b p h = ⊎_elim (λ z. inl z) (λ r. inr (range-numbers (node_size ed) b (nodes_at ed b) _ _ _ r)) h

module _ (ed : Edition) (b : List ℕ) (g : Laid (node_size ed) b (nodes_at ed b)) where
  -- one address, one segment and element
  pub address_same : (s e t f : ℕ) → Resolves (node_size ed) b (nodes_at ed b) s e → Resolves (node_size ed) b (nodes_at ed b) t f → address s e ≡ address t f → (s ≡ t) × (e ≡ f)
  address_same s e t f h l q =
      let x = small-element ed b g s e h in
      let y = small-element ed b g t f l in
      (omega arith, omega arith)

  module _ (r : NodesRules ed b) (a : ℕ) (u : Used ed b a) where
    pub reached : Reached ed b (node_of ed b a)
    unfolding node_of
    reached = (r.each _ _ u).children.reach

    module _ (j : ℕ) (l : j < (tree_of ed b).count a) where
      child_resolves : Resolves (node_size ed) b (nodes_at ed b) (child_segment ed b (node_of ed b a)) (child_element ed b (node_of ed b a) + j)
      unfolding tree_of
      child_resolves = range-each (node_size ed) b (nodes_at ed b) _ _ _ j (range-of ed b g r a u j l) l

      child-address : address (child_segment ed b (node_of ed b a)) (child_element ed b (node_of ed b a) + j) ≡ child (tree_of ed b) a j
      unfolding tree_of
      child-address = omega arith

      child-row : number_of (node_size ed) b (nodes_at ed b) (child_segment ed b (node_of ed b a)) (child_element ed b (node_of ed b a) + j) ≡ first_number ed b (node_of ed b a) + j
      unfolding first_number
      child-row = number-row (node_size ed) b (nodes_at ed b) _ _ j

      -- child j has the j-th number from the first child's on, and no other node has it
      pub child-number : (s e : ℕ) → Resolves (node_size ed) b (nodes_at ed b) s e → address s e ≡ child (tree_of ed b) a j
          → number_of (node_size ed) b (nodes_at ed b) s e ≡ first_number ed b (node_of ed b a) + j
      child-number s e h q =
          let w = address_same s e _ _ h child_resolves (q ∙ sym child-address) in
          ap (λ (x : ℕ). number_of (node_size ed) b (nodes_at ed b) x e) w.0 ∙ ap (number_of (node_size ed) b (nodes_at ed b) (child_segment ed b (node_of ed b a))) w.1 ∙ child-row

      pub number-child : (s e : ℕ) → Resolves (node_size ed) b (nodes_at ed b) s e → number_of (node_size ed) b (nodes_at ed b) s e ≡ first_number ed b (node_of ed b a) + j
          → address s e ≡ child (tree_of ed b) a j
      number-child s e h q =
          let w = number_same (node_size ed) b (nodes_at ed b) s e _ _ h child_resolves (q ∙ sym child-row) in
          ap (λ (x : ℕ). address x e) w.0 ∙ ap (address (child_segment ed b (node_of ed b a))) w.1 ∙ child-address

      -- what is known of each used node, known of child j
      pub at-child : (P : ℕ → ℕ → Type 0) → ((s e : ℕ) → Resolves (node_size ed) b (nodes_at ed b) s e → P (number_of (node_size ed) b (nodes_at ed b) s e) (address s e))
          → P (first_number ed b (node_of ed b a) + j) (child (tree_of ed b) a j)
      at-child P f = rw (sym child-row, sym child-address) (f _ _ child_resolves)
