-- What the code finds out on the way to 19 and 23.
use Rattle.std.specs.Prelude.{ℕ, ◌+◌, ◌*◌, ◌≤◌, ◌<◌, List}
use Rattle.layout.specs.Edition.{node_size}
use Rattle.layout.specs.declared.Edition.{Edition}
use Rattle.nodes.specs.Node.{node_name, Live}

-- The name indices of the live ones among the n nodes from offset q on do not fall.
abbrev pub NamesRise : Edition → List ℕ → ℕ → ℕ → Type 0
NamesRise ed b q n = (j : ℕ) → j < n → (i : ℕ) → i < j → Live b (q + i * node_size ed) → Live b (q + j * node_size ed) → node_name b (q + i * node_size ed) ≤ node_name b (q + j * node_size ed)
