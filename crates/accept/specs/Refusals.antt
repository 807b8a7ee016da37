-- Rows 1 to 23 of the table of refusals (FORMAT, "Refusals"): number, place, and what is broken there. A file can break several rules;
-- the first in the stated order is given. 24 to 26 belong to the questions.
use Rattle.std.specs.Prelude.{ℕ, ◌+◌, ◌-◌, ◌*◌, ◌≤◌, ◌<◌, ◌≡◌, List, length}
use Rattle.le.specs.Le.{u32_at}
use Rattle.region.specs.Region.{count_of, start_of, full_of, used_of, Resolves}
use Rattle.layout.specs.Header.{keys_at, key_count, key_at}
use Rattle.layout.specs.Table.{Table, bucket_at, entries, entry_at, list_at, count, position_at}
use Rattle.layout.specs.Edition.{attribute_size, node_size}
use Rattle.layout.specs.Layout.{attributes_at, nodes_at, values_at, names_at, values, names, footer_at, values_most, names_most}
use Rattle.layout.specs.declared.Edition.{Edition}
use Rattle.strings.specs.Rules.{Resolved, Sized, Hashed, Placed, Indexed, Duplicate, Carried}
use Rattle.keys.specs.Names.{Special}
use Rattle.keys.specs.Keys.{KeyRule}
use Rattle.nodes.specs.Node.{attribute_count, node_at, attribute_at}
use Rattle.nodes.specs.Rules.{RootUsed, NodeRule, AttributesReach, AttributeRule, TextRight, ChildRule}
use Rattle.tree.specs.Chain.{most_levels}
use Rattle.tree.specs.File.{address, node_of, tree_of, used_node_count}
use Rattle.tree.specs.Rules.{RangeRule, FirstDeep}

-- The segmented regions of a file: the size of an element, and where the region stands.
pub data RegionOf (ed : Edition) (b : List ℕ) : ℕ → ℕ → Type 0 where
  attributes : RegionOf ed b (attribute_size ed) (attributes_at b)
  nodes : RegionOf ed b (node_size ed) (nodes_at ed b)
  value-characters : RegionOf ed b 2 (values_at ed b)
  name-characters : RegionOf ed b 2 (names_at ed b)

-- The string tables of a file, and the most that the address count may be.
pub data TableOf (ed : Edition) (b : List ℕ) : Table → ℕ → Type 0 where
  of_values : TableOf ed b (values ed b) values_most
  of-names : TableOf ed b (names ed b) names_most

-- The fields and element arrays of a file: where each stands, and how many bytes it has.
pub data Field (ed : Edition) (b : List ℕ) : ℕ → ℕ → Type 0 where
  version : Field ed b 0 4
  timestamp : Field ed b 4 8
  revision : Field ed b 12 4
  zero_word : (i : ℕ) → i < 4 → Field ed b (16 + 4 * i) 4
  key-count : Field ed b keys_at 4
  all-keys : Field ed b (key_at 0) (8 * key_count b)
  segment-count : {size r : ℕ} → RegionOf ed b size r → Field ed b r 4
  full-count : {size r : ℕ} → RegionOf ed b size r → (s : ℕ) → s < count_of b r → Field ed b (start_of size b r s) 4
  used-count : {size r : ℕ} → RegionOf ed b size r → (s : ℕ) → s < count_of b r → Field ed b (start_of size b r s + 4) 4
  elements : {size r : ℕ} → RegionOf ed b size r → (s : ℕ) → s < count_of b r → Field ed b (start_of size b r s + 8) (full_of size b r s * size)
  entry-count : {t : Table} {most : ℕ} → TableOf ed b t most → (k : ℕ) → k < t.buckets → Field ed b (bucket_at t k) 4
  bucket-entries : {t : Table} {most : ℕ} → TableOf ed b t most → (k : ℕ) → k < t.buckets → Field ed b (bucket_at t k + 4) (16 * entries t k)
  address-count : {t : Table} {most : ℕ} → TableOf ed b t most → Field ed b (list_at t) 4
  addresses : {t : Table} {most : ℕ} → TableOf ed b t most → Field ed b (list_at t + 4) (4 * (count t - 1))
  footer : Field ed b (footer_at ed b) 4

-- The counts that have limits: where each stands, the least that it may be, the count, and the most.
pub data Limited (ed : Edition) (b : List ℕ) : ℕ → ℕ → ℕ → ℕ → Type 0 where
  of-keys : Limited ed b keys_at 1 (key_count b) 4096
  of_segments : {size r : ℕ} → RegionOf ed b size r → Limited ed b r 0 (count_of b r) 65535
  of-full : {size r : ℕ} → RegionOf ed b size r → (s : ℕ) → s < count_of b r → Limited ed b (start_of size b r s) 0 (full_of size b r s) 65535
  of-used : {size r : ℕ} → RegionOf ed b size r → (s : ℕ) → s < count_of b r → Limited ed b (start_of size b r s + 4) 0 (used_of size b r s) (full_of size b r s)
  of-addresses : {t : Table} {most : ℕ} → TableOf ed b t most → Limited ed b (list_at t) 1 (count t) most

-- Entry j of bucket k is one of a string table of the file.
pub record EntryOf (ed : Edition) (b : List ℕ) (t : Table) (k j : ℕ) : Type 0 where
  pub most : ℕ
  pub of : TableOf ed b t most
  pub bucket : k < t.buckets
  pub entry : j < entries t k

-- Node seg:el is a used node; attribute i is one of it.
abbrev pub UsedNode : Edition → List ℕ → ℕ → ℕ → Type 0
UsedNode ed b seg el = Resolves (node_size ed) b (nodes_at ed b) seg el

pub record AttributeOf (ed : Edition) (b : List ℕ) (seg el i : ℕ) : Type 0 where
  pub node : UsedNode ed b seg el
  pub attribute : i < attribute_count b (node_at ed b seg el)

-- The rule numbered n is broken at place p, with a workspace of so many bytes.
pub data Broken (ed : Edition) (b : List ℕ) (room : ℕ) : ℕ → ℕ → Type 0 where
  -- 1: the file is over the limit; place 0.
  over_limit : (length b ≤ 1073741824 → ⊥) → Broken ed b room 1 0
  -- 2: a field or element array runs past the end; its offset.
  runs_past : {at width : ℕ} → Field ed b at width → (at + width ≤ length b → ⊥) → Broken ed b room 2 at
  -- 3: the version is not 6; place 0.
  version_wrong : (u32_at b 0 ≡ 6 → ⊥) → Broken ed b room 3 0
  -- 4: a zero word of the header is not 0; its offset.
  word_not_0 : (i : ℕ) → i < 4 → (u32_at b (16 + 4 * i) ≡ 0 → ⊥) → Broken ed b room 4 (16 + 4 * i)
  -- 5: a count is outside its limits; its offset.
  too_few : {at least n most : ℕ} → Limited ed b at least n most → (least ≤ n → ⊥) → Broken ed b room 5 at
  too_many : {at least n most : ℕ} → Limited ed b at least n most → (n ≤ most → ⊥) → Broken ed b room 5 at
  -- 6: the footer is not 0, or bytes follow it; the footer, or the first such byte.
  footer_not_0 : (u32_at b (footer_at ed b) ≡ 0 → ⊥) → Broken ed b room 6 (footer_at ed b)
  bytes_after : (length b ≤ footer_at ed b + 4 → ⊥) → Broken ed b room 6 (footer_at ed b + 4)
  -- 7 to 12, of an entry; the entry.
  unresolved : {t : Table} {k j : ℕ} → EntryOf ed b t k j → (Resolved t k j → ⊥) → Broken ed b room 7 (entry_at t k j)
  length_wrong : {t : Table} {k j : ℕ} → EntryOf ed b t k j → (Sized t k j → ⊥) → Broken ed b room 8 (entry_at t k j)
  hash_wrong : {t : Table} {k j : ℕ} → EntryOf ed b t k j → (Hashed t k j → ⊥) → Broken ed b room 9 (entry_at t k j)
  misplaced : {t : Table} {k j : ℕ} → EntryOf ed b t k j → (Placed t k j → ⊥) → Broken ed b room 10 (entry_at t k j)
  index_wrong : {t : Table} {k j : ℕ} → EntryOf ed b t k j → (Indexed t k j → ⊥) → Broken ed b room 11 (entry_at t k j)
  same_text : {t : Table} {k j : ℕ} → EntryOf ed b t k j → Duplicate t k j → Broken ed b room 12 (entry_at t k j)
  -- 13: no entry carries a list position's index; the list element.
  not_carried : {t : Table} {most : ℕ} → TableOf ed b t most → (i : ℕ) → 1 ≤ i → i < count t → (Carried t i → ⊥) → Broken ed b room 13 (position_at t i)
  -- 14: `__root__` and `__value__` are not the two highest name indices; the names address count.
  not-special : (Special ed b → ⊥) → Broken ed b room 14 (list_at (names ed b))
  -- 15, of a key; the key.
  key_wrong : (k : ℕ) → k < key_count b → (KeyRule ed b k → ⊥) → Broken ed b room 15 (key_at k)
  -- 16: there is no used node 0:0; the node segment count. Or a node is wrong; the node.
  no_root : (RootUsed ed b → ⊥) → Broken ed b room 16 (nodes_at ed b)
  node_wrong : {seg el : ℕ} → UsedNode ed b seg el → (NodeRule ed b seg el → ⊥) → Broken ed b room 16 (node_at ed b seg el)
  -- 17: an attribute range does not resolve; the node.
  attributes-out : {seg el : ℕ} → UsedNode ed b seg el → (AttributesReach ed b (node_at ed b seg el) → ⊥) → Broken ed b room 17 (node_at ed b seg el)
  -- 18 and 19, of an attribute; the attribute.
  attribute_wrong : {seg el i : ℕ} → AttributeOf ed b seg el i → (AttributeRule ed b (node_at ed b seg el) i → ⊥) → Broken ed b room 18 (attribute_at ed b (node_at ed b seg el) i)
  text_wrong : {seg el i : ℕ} → AttributeOf ed b seg el i → (TextRight ed b (attribute_at ed b (node_at ed b seg el) i) → ⊥)
      → Broken ed b room 19 (attribute_at ed b (node_at ed b seg el) i)
  -- 23: a child range does not resolve, or the name indices of its live nodes fall; the node.
  children_wrong : {seg el : ℕ} → UsedNode ed b seg el → (ChildRule ed b (node_at ed b seg el) → ⊥) → Broken ed b room 23 (node_at ed b seg el)
  -- 20: the workspace is shorter than the used nodes; the number needed.
  room-short : (used_node_count ed b ≤ room → ⊥) → Broken ed b room 20 (used_node_count ed b)
  -- 21: a child range holds the root, or an element already in an earlier node's range; the range's node.
  range_taken : {seg el : ℕ} → UsedNode ed b seg el → (RangeRule ed b (address seg el) → ⊥) → Broken ed b room 21 (node_at ed b seg el)
  -- 22: a chain of 65 nodes; its last node, first in document order.
  too_deep : (e : ℕ) → FirstDeep (tree_of ed b) most_levels 0 e → Broken ed b room 22 (node_of ed b e)
