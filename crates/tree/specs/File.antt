-- The tree of a file: a node's number is segment times 65,536 plus element.
use Rattle.std.specs.Prelude.{ℕ, ◌+◌, ◌*◌, ◌/◌, ◌%◌, List}
use Rattle.region.specs.Region.{Resolves, total_of}
use Rattle.layout.specs.Edition.{node_size}
use Rattle.layout.specs.Layout.{nodes_at}
use Rattle.layout.specs.declared.Edition.{Edition}
use Rattle.nodes.specs.Node.{node_name, child_segment, child_element, child_count, node_at}
use Rattle.tree.specs.Chain.{Tree}

-- An address as one number.
abbrev pub address : ℕ → ℕ → ℕ
address seg el = seg * 65536 + el

-- Where the node with that number stands.
unfoldable pub node_of : Edition → List ℕ → ℕ → ℕ
node_of ed b a = node_at ed b (a / 65536) (a % 65536)

-- It is a used node.
abbrev pub Used : Edition → List ℕ → ℕ → Type 0
Used ed b a = Resolves (node_size ed) b (nodes_at ed b) (a / 65536) (a % 65536)

-- The tree: names and child ranges as the nodes have them.
unfoldable pub tree_of : Edition → List ℕ → Tree
tree_of ed b = record {
  name = λ a. node_name b (node_of ed b a);
  first = λ a. address (child_segment ed b (node_of ed b a)) (child_element ed b (node_of ed b a));
  count = λ a. child_count b (node_of ed b a);
}

-- U, the used nodes.
unfoldable pub used_node_count : Edition → List ℕ → ℕ
used_node_count ed b = total_of (node_size ed) b (nodes_at ed b)
