-- Refusals 20 to 22 (FORMAT, "Refusals").
use Rattle.std.specs.Prelude.{ℕ, List, [], ◌∷◌}
use Rattle.verdict.specs.Checks.{Check, check, at_most, each}
use Rattle.region.specs.Region.{count_of, used_of}
use Rattle.layout.specs.Edition.{node_size}
use Rattle.layout.specs.Layout.{nodes_at}
use Rattle.layout.specs.declared.Edition.{Edition}
use Rattle.nodes.specs.Node.{node_at}
use Rattle.tree.specs.Chain.{ends, first_or, most_levels}
use Rattle.tree.specs.File.{address, node_of, tree_of, used_node_count}
use Rattle.tree.specs.Rules.{RangeRule, DepthRule}
use Rattle.tree.specs.Decisions.{range_rule?, depth_rule?}

-- 20: the workspace has a byte for each used node; the place is the number needed.
unfoldable pub room_checks : Edition → List ℕ → ℕ → List Check
room_checks ed b room = at_most 20 (used_node_count ed b) (used_node_count ed b) room ∷ []

-- 21 of node seg:el; the place is the range's node.
unfoldable pub range_checks : Edition → List ℕ → ℕ → ℕ → List Check
range_checks ed b seg el = check 21 (node_at ed b seg el) (RangeRule ed b (address seg el)) (range_rule? ed b (address seg el)) ∷ []

unfoldable pub segment_range_checks : Edition → List ℕ → ℕ → List Check
segment_range_checks ed b seg = each (range_checks ed b seg) (used_of (node_size ed) b (nodes_at ed b) seg) 0

-- 21 of every used node in file order.
unfoldable pub all_range_checks : Edition → List ℕ → List Check
all_range_checks ed b = each (segment_range_checks ed b) (count_of b (nodes_at ed b)) 0

-- 22; the place is the last node of the first chain of 65 nodes in document order.
unfoldable pub depth_checks : Edition → List ℕ → List Check
depth_checks ed b = check 22 (node_of ed b (first_or 0 (ends (tree_of ed b) most_levels 0))) (DepthRule ed b) (depth_rule? ed b) ∷ []
