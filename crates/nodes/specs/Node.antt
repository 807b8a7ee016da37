-- Nodes (FORMAT, "Nodes"): the fields of the node at offset p, and what they mean.
use Rattle.std.specs.Prelude.{ℕ, ◌+◌, ◌≡◌, cond, List, eqb}
use Rattle.le.specs.Le.{u16_at}
use Rattle.region.specs.Region.{place_of}
use Rattle.layout.specs.Edition.{attribute_size, node_size, child_offset}
use Rattle.layout.specs.Layout.{nodes_at, attributes_at}
use Rattle.layout.specs.declared.Edition.{Edition}

-- Name u16, key word u16, attribute count u16, child count u16, attribute address, child address. In 64 bit 4 ignored bytes follow each address.
unfoldable pub node_name : List ℕ → ℕ → ℕ
node_name b p = u16_at b p

unfoldable pub key_word : List ℕ → ℕ → ℕ
key_word b p = u16_at b (p + 2)

unfoldable pub attribute_field : List ℕ → ℕ → ℕ
attribute_field b p = u16_at b (p + 4)

unfoldable pub child_field : List ℕ → ℕ → ℕ
child_field b p = u16_at b (p + 6)

unfoldable pub attribute_segment : List ℕ → ℕ → ℕ
attribute_segment b p = u16_at b (p + 8)

unfoldable pub attribute_element : List ℕ → ℕ → ℕ
attribute_element b p = u16_at b (p + 10)

unfoldable pub child_segment : Edition → List ℕ → ℕ → ℕ
child_segment ed b p = u16_at b (p + child_offset ed)

unfoldable pub child_element : Edition → List ℕ → ℕ → ℕ
child_element ed b p = u16_at b (p + (child_offset ed + 2))

-- Name 0 means nameless; every other used node is live.
abbrev pub Live : List ℕ → ℕ → Type 0
Live b p = node_name b p ≡ 0 → ⊥

-- A nameless node's other fields mean nothing: it has no attributes and no children.
unfoldable pub attribute_count : List ℕ → ℕ → ℕ
attribute_count b p = cond (eqb (node_name b p) 0) 0 (attribute_field b p)

unfoldable pub child_count : List ℕ → ℕ → ℕ
child_count b p = cond (eqb (node_name b p) 0) 0 (child_field b p)

-- Where node seg:el stands.
unfoldable pub node_at : Edition → List ℕ → ℕ → ℕ → ℕ
node_at ed b seg el = place_of (node_size ed) b (nodes_at ed b) seg el

-- Where attribute i of the node at p stands, and its child i: in the ranges from its addresses on.
unfoldable pub attribute_at : Edition → List ℕ → ℕ → ℕ → ℕ
attribute_at ed b p i = place_of (attribute_size ed) b (attributes_at b) (attribute_segment b p) (attribute_element b p + i)

unfoldable pub child_at : Edition → List ℕ → ℕ → ℕ → ℕ
child_at ed b p i = node_at ed b (child_segment ed b p) (child_element ed b p + i)
