-- The outline (FORMAT, "Outline"): the root's block; a node's block is its line and then the blocks of its children, in order.
use Rattle.std.specs.Prelude.{ℕ, zero, suc, ◌+◌, ◌*◌, Bool, true, false, cond, List, [], ◌∷◌, ◌++◌, eqb, replicate}
use Rattle.layout.specs.Layout.{values}
use Rattle.layout.specs.declared.Edition.{Edition}
use Rattle.strings.specs.Texts.{text_to}
use Rattle.keys.specs.Names.{name_text}
use Rattle.nodes.specs.Node.{node_name, attribute_count, attribute_at}
use Rattle.nodes.specs.Attribute.{attribute_name, value_of}
use Rattle.nodes.specs.declared.value.Value.{Value}
use Rattle.nodes.specs.declared.value.Value.TheVariants.{Whole, Truth, Float, Text}
use Rattle.tree.specs.Chain.{ranged, deepest_level}
use Rattle.tree.specs.File.{node_of, tree_of}
use Rattle.print.specs.Text.{hex_of, escaped, whole_text}

-- `b:true` or `b:false`.
unfoldable pub truth_text : Bool → List ℕ
truth_text true = 0x62 ∷ 0x3a ∷ 0x74 ∷ 0x72 ∷ 0x75 ∷ 0x65 ∷ []
truth_text false = 0x62 ∷ 0x3a ∷ 0x66 ∷ 0x61 ∷ 0x6c ∷ 0x73 ∷ 0x65 ∷ []

-- `i:` decimal (`-` if negative), a truth as above, `f:` and 8 hex digits of the bits, or `s:` and the text.
unfoldable pub value_text : Edition → List ℕ → Value → List ℕ
value_text ed b (Whole z) = 0x69 ∷ 0x3a ∷ whole_text z
value_text ed b (Truth t) = truth_text t
value_text ed b (Float f) = 0x66 ∷ 0x3a ∷ hex_of 8 f.bits
value_text ed b (Text seg el) = 0x73 ∷ 0x3a ∷ escaped (text_to (values ed b) seg el)

-- For the attribute at offset q a space, its name, `=` and its value.
unfoldable pub attribute_text : Edition → List ℕ → ℕ → List ℕ
attribute_text ed b q = 0x20 ∷ (escaped (name_text ed b (attribute_name b q)) ++ (0x3d ∷ value_text ed b (value_of b q)))

-- The line of the node at offset p: two spaces per level below the root, the name, the attributes, then a newline.
unfoldable pub line : Edition → List ℕ → ℕ → ℕ → List ℕ
line ed b level p =
    replicate (2 * level) 0x20
    ++ (escaped (name_text ed b (node_name b p)) ++ (ranged (λ i. attribute_text ed b (attribute_at ed b p i)) 0 (attribute_count b p) ++ (0x0a ∷ [])))

-- What f gives for a live node; a nameless node is not shown.
unfoldable pub shown : Edition → List ℕ → (ℕ → List ℕ) → ℕ → List ℕ
shown ed b f c = cond (eqb ((tree_of ed b).name c) 0) [] (f c)

-- The block of node a at a level, with at most `left` levels of nodes below it.
unfoldable pub block : Edition → List ℕ → ℕ → ℕ → ℕ → List ℕ
block ed b zero level a = line ed b level (node_of ed b a)
block ed b (suc left) level a =
    line ed b level (node_of ed b a) ++ ranged (shown ed b (block ed b left (level + 1))) ((tree_of ed b).first a) ((tree_of ed b).count a)

-- The root's block: no chain has more than 64 nodes, so at most 63 levels are below the root.
unfoldable pub outline_of : Edition → List ℕ → List ℕ
outline_of ed b = block ed b deepest_level 0 0
