-- Refusals 16 to 19 and 23, node by node (FORMAT, "Refusals").
use Rattle.std.specs.Prelude.{ℕ, List, [], ◌∷◌, ◌++◌}
use Rattle.verdict.specs.Checks.{Check, check, each}
use Rattle.region.specs.Region.{count_of, used_of}
use Rattle.layout.specs.Edition.{node_size}
use Rattle.layout.specs.Layout.{nodes_at}
use Rattle.layout.specs.declared.Edition.{Edition}
use Rattle.nodes.specs.Node.{attribute_count, node_at, attribute_at}
use Rattle.nodes.specs.Rules.{RootUsed, NodeRule, AttributesReach, AttributeRule, TextRight, ChildRule}
use Rattle.nodes.specs.Decisions.{root_used?, node_rule?, attributes_reach?, attribute_rule?, text_right?, child_rule?}

-- 18 and 19 of attribute i of the node at p; the place is the attribute.
unfoldable pub attribute_checks : Edition → List ℕ → ℕ → ℕ → List Check
attribute_checks ed b p i =
    check 18 (attribute_at ed b p i) (AttributeRule ed b p i) (attribute_rule? ed b p i)
    ∷ check 19 (attribute_at ed b p i) (TextRight ed b (attribute_at ed b p i)) (text_right? ed b (attribute_at ed b p i))
    ∷ []

-- All of a node's attributes.
unfoldable pub node_attribute_checks : Edition → List ℕ → ℕ → List Check
node_attribute_checks ed b p = each (attribute_checks ed b p) (attribute_count b p) 0

-- 17 of the node at p, then its attributes.
unfoldable pub attribute_range_checks : Edition → List ℕ → ℕ → List Check
attribute_range_checks ed b p = check 17 p (AttributesReach ed b p) (attributes_reach? ed b p) ∷ node_attribute_checks ed b p

-- Within a node: 16, 17, its attributes, 23; but for the attributes' the place is the node.
unfoldable pub node_checks : Edition → List ℕ → ℕ → ℕ → List Check
node_checks ed b seg el =
    check 16 (node_at ed b seg el) (NodeRule ed b seg el) (node_rule? ed b seg el)
    ∷ (attribute_range_checks ed b (node_at ed b seg el)
    ++ (check 23 (node_at ed b seg el) (ChildRule ed b (node_at ed b seg el)) (child_rule? ed b (node_at ed b seg el)) ∷ []))

-- The used nodes of a segment.
unfoldable pub segment_node_checks : Edition → List ℕ → ℕ → List Check
segment_node_checks ed b seg = each (node_checks ed b seg) (used_of (node_size ed) b (nodes_at ed b) seg) 0

-- 16 where there is no used node 0:0 (place: node segment count), then node by node, in the order of the nodes.
unfoldable pub all_node_checks : Edition → List ℕ → List Check
all_node_checks ed b =
    check 16 (nodes_at ed b) (RootUsed ed b) (root_used? ed b) ∷ each (segment_node_checks ed b) (count_of b (nodes_at ed b)) 0
