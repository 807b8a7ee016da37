-- The children of a node, as the code finds them.
use Rattle.std.specs.Prelude.{ℕ, ◌+◌, ◌*◌, ◌<◌, ◌≡◌, List}
use Rattle.layout.specs.Edition.{node_size}
use Rattle.layout.specs.declared.Edition.{Edition}
use Rattle.nodes.specs.Node.{child_segment, child_element, child_count}
use Rattle.tree.specs.File.{address, node_of, Used}
use Rattle.tree.specs.declared.ranges.Children.{Children}

-- Used nodes, `count` of them by number from `first` on, stand in a row at q.
pub record Row (ed : Edition) (b : List ℕ) (first q count : ℕ) : Type 0 where
  pub low : first < 4294967296
  pub few : count < 65536
  pub node : (j : ℕ) → j < count → Used ed b (first + j) × (q + j * node_size ed ≡ node_of ed b (first + j))

-- The children of the node at p.
pub record ChildrenOf (ed : Edition) (b : List ℕ) (p : ℕ) (r : Children) : Type 0 where
  pub first : r.first ≡ address (child_segment ed b p) (child_element ed b p)
  pub count : r.count ≡ child_count b p
  pub row : Row ed b r.first r.place r.count
