-- Every refusal of acceptance is a row of the table of refusals: what a broken check of the stated order means, group by group.
-- Assumes nothing.
use Prim.Native.Nat.{ℕ, ◌-◌, ◌≤◌, ◌<◌}
use native.Mathlib.Omega.{arith}
use mathlib.Core.Path.{◌≡◌, subst, sym}
use mathlib.Core.Logic.{by_cases}
use mathlib.Core.List.{List, [], ◌∷◌, ◌++◌}
use Rattle.verdict.specs.Verdict.{Refused}
use Rattle.verdict.specs.Checks.{Check, check, each}
use Rattle.verdict.specs.Decide.{some_below?, texts?}
use Rattle.verdict.proofs.Laws.{stop}
use Rattle.verdict.proofs.Broken.{AllOf, all_none, all_more, all_append, all-each, all-broken}
use Rattle.region.specs.Region.{count_of, used_of}
use Rattle.region.specs.Checks.{segment_checks, region_checks}
use Rattle.layout.specs.Header.{key_count, zero_word_checks, header_checks, key_checks}
use Rattle.layout.specs.Table.{Table, table, entries, count, bucket_checks, list_checks, table_checks}
use Rattle.layout.specs.Edition.{node_size}
use Rattle.layout.specs.Layout.{nodes_at, values, names, size_checks, footer_checks, front_checks, layout_checks}
use Rattle.layout.specs.declared.Edition.{Edition}
use Rattle.strings.specs.Rules.{Duplicate}
use Rattle.strings.specs.Texts.{text_of}
use Rattle.strings.specs.Order.{entry_checks, bucket_entry_checks, all_entry_checks, position_checks, all_position_checks, string_checks}
use Rattle.keys.specs.Order.{special_checks, key_rule_checks, all_key_checks}
use Rattle.nodes.specs.Node.{attribute_count, node_at}
use Rattle.nodes.specs.Order.{attribute_checks, node_attribute_checks, attribute_range_checks, node_checks, segment_node_checks, all_node_checks}
use Rattle.tree.specs.Chain.{ends, first_or, most_levels}
use Rattle.tree.specs.File.{node_of, tree_of}
use Rattle.tree.specs.Rules.{DepthRule}
use Rattle.tree.specs.Decisions.{depth_rule?}
use Rattle.tree.specs.Order.{room_checks, range_checks, segment_range_checks, all_range_checks, depth_checks}
use Rattle.tree.specs.Outcome.{tree_checks}
use Rattle.tree.proofs.Deepest.{depth-first}
use Rattle.accept.specs.Verdict.{accept_checks, verdict_of}
use Rattle.accept.specs.Refusals.{RegionOf, TableOf, Field, Limited, EntryOf, UsedNode, AttributeOf, Broken}

-- a text that is not alone has a duplicate
some_duplicate : (t : Table) (k j : ℕ) → ((Duplicate t k j → ⊥) → ⊥) → Duplicate t k j
some_duplicate t k j f = by_cases (some_below? j (λ i. texts? (text_of t k i) (text_of t k j))) (λ w. w) (λ w. absurd (f w))

module _ (ed : Edition) (b : List ℕ) (room : ℕ) where
  -- a check whose rule is broken is a row of the table
  abbrev Row : ℕ → ℕ → Type 0 → Type 0
  Row n p P = (P → ⊥) → Broken ed b room n p

  abbrev Rows : List Check → Type 0
  Rows cs = AllOf Row cs

  none : Rows []
  none = all_none Row

  more : (n p : ℕ) (P : Type 0) (d : Dec P) (cs : List Check) → Row n p P → Rows cs → Rows (check n p P d ∷ cs)
  more = all_more Row

  then : (xs ys : List Check) → Rows xs → Rows ys → Rows (xs ++ ys)
  then = all_append Row

  -- ---- 1 to 6 along the file

  module _ {size r : ℕ} (g : RegionOf ed b size r) where
    of-segment : (s : ℕ) → s < count_of b r → Rows (segment_checks size b r s)
    unfolding segment_checks
    of-segment s l =
        more _ _ _ _ _ (Broken.runs_past (Field.full-count g s l))
        (more _ _ _ _ _ (Broken.too_many (Limited.of-full g s l))
        (more _ _ _ _ _ (Broken.runs_past (Field.used-count g s l))
        (more _ _ _ _ _ (Broken.too_many (Limited.of-used g s l))
        (more _ _ _ _ _ (Broken.runs_past (Field.elements g s l)) none))))

    of_region : Rows (region_checks size b r)
    unfolding region_checks
    of_region =
        more _ _ _ _ _ (Broken.runs_past (Field.segment-count g))
        (more _ _ _ _ _ (Broken.too_many (Limited.of_segments g))
        (all-each Row (segment_checks size b r) (count_of b r) 0 (λ s l h. of-segment s (omega arith))))

  module _ (at n most : ℕ) (g : RegionOf ed b 2 at) (o : TableOf ed b (table b at n) most) where
    of-bucket : (k : ℕ) → k < n → Rows (bucket_checks (table b at n) k)
    unfolding bucket_checks
    of-bucket k l = more _ _ _ _ _ (Broken.runs_past (Field.entry-count o k l)) (more _ _ _ _ _ (Broken.runs_past (Field.bucket-entries o k l)) none)

    of-list : Rows (list_checks (table b at n) most)
    unfolding list_checks
    of-list =
        more _ _ _ _ _ (Broken.runs_past (Field.address-count o))
        (more _ _ _ _ _ (Broken.too_few (Limited.of-addresses o))
        (more _ _ _ _ _ (Broken.too_many (Limited.of-addresses o)) (more _ _ _ _ _ (Broken.runs_past (Field.addresses o)) none)))

    of-table : Rows (table_checks (table b at n) most)
    unfolding table_checks
    of-table =
        then _ _ (of_region g)
        (then _ _ (all-each Row (bucket_checks (table b at n)) n 0 (λ k l h. of-bucket k (omega arith))) of-list)

    -- ---- 7 to 13 of a table

    of_entry : (k j : ℕ) → k < n → j < entries (table b at n) k → Rows (entry_checks (table b at n) k j)
    unfolding entry_checks
    of_entry k j l h =
        let e : EntryOf ed b (table b at n) k j = record { most = most; of = o; bucket = l; entry = h } in
        more _ _ _ _ _ (Broken.unresolved e)
        (more _ _ _ _ _ (Broken.length_wrong e)
        (more _ _ _ _ _ (Broken.hash_wrong e)
        (more _ _ _ _ _ (Broken.misplaced e)
        (more _ _ _ _ _ (Broken.index_wrong e)
        (more _ _ _ _ _ (λ f. Broken.same_text e (some_duplicate (table b at n) k j f)) none)))))

    of-position : (i : ℕ) → 1 ≤ i → i < count (table b at n) → Rows (position_checks (table b at n) i)
    unfolding position_checks
    of-position i l h = more _ _ _ _ _ (Broken.not_carried o i l h) none

    of-strings : Rows (string_checks (table b at n))
    unfolding string_checks all_entry_checks bucket_entry_checks all_position_checks
    of-strings =
        then _ _
        (all-each Row (λ k. each (entry_checks (table b at n) k) (entries (table b at n) k) 0) n 0
        (λ k l h. all-each Row (entry_checks (table b at n) k) (entries (table b at n) k) 0 (λ j m e. of_entry k j (omega arith) (omega arith))))
        (all-each Row (position_checks (table b at n)) (count (table b at n) - 1) 1 (λ i l h. of-position i l (omega arith)))

  of_size : Rows (size_checks b)
  unfolding size_checks
  of_size = more _ _ _ _ _ Broken.over_limit none

  of_word : (i : ℕ) → i < 4 → Rows (zero_word_checks b i)
  unfolding zero_word_checks
  of_word i l = more _ _ _ _ _ (Broken.runs_past (Field.zero_word i l)) (more _ _ _ _ _ (Broken.word_not_0 i l) none)

  of-header : Rows (header_checks b)
  unfolding header_checks
  of-header =
      more _ _ _ _ _ (Broken.runs_past Field.version)
      (more _ _ _ _ _ Broken.version_wrong
      (more _ _ _ _ _ (Broken.runs_past Field.timestamp)
      (more _ _ _ _ _ (Broken.runs_past Field.revision) (all-each Row (zero_word_checks b) 4 0 (λ i l h. of_word i (omega arith))))))

  of-keys : Rows (key_checks b)
  unfolding key_checks
  of-keys =
      more _ _ _ _ _ (Broken.runs_past Field.key-count)
      (more _ _ _ _ _ (Broken.too_few Limited.of-keys)
      (more _ _ _ _ _ (Broken.too_many Limited.of-keys) (more _ _ _ _ _ (Broken.runs_past Field.all-keys) none)))

  of_front : Rows (front_checks ed b)
  unfolding front_checks
  of_front = then _ _ of_size (then _ _ of-header (then _ _ of-keys (then _ _ (of_region RegionOf.attributes) (of_region RegionOf.nodes))))

  of-footer : Rows (footer_checks ed b)
  unfolding footer_checks
  of-footer = more _ _ _ _ _ (Broken.runs_past Field.footer) (more _ _ _ _ _ Broken.footer_not_0 (more _ _ _ _ _ Broken.bytes_after none))

  of_layout : Rows (layout_checks ed b)
  unfolding layout_checks values names
  of_layout =
      then _ _ of_front
      (then _ _ (of-table _ _ _ RegionOf.value-characters TableOf.of_values)
      (then _ _ (of-table _ _ _ RegionOf.name-characters TableOf.of-names) of-footer))

  of_values : Rows (string_checks (values ed b))
  unfolding values
  of_values = of-strings _ _ _ RegionOf.value-characters TableOf.of_values

  of-names : Rows (string_checks (names ed b))
  unfolding names
  of-names = of-strings _ _ _ RegionOf.name-characters TableOf.of-names

  -- ---- 14, 15

  of-special : Rows (special_checks ed b)
  unfolding special_checks
  of-special = more _ _ _ _ _ Broken.not-special none

  of-all-keys : Rows (all_key_checks ed b)
  unfolding all_key_checks key_rule_checks
  of-all-keys = all-each Row (key_rule_checks ed b) (key_count b) 0 (λ k l h. more _ _ _ _ _ (Broken.key_wrong k (omega arith)) none)

  -- ---- 16 to 19 and 23

  of-attribute : (seg el i : ℕ) → AttributeOf ed b seg el i → Rows (attribute_checks ed b (node_at ed b seg el) i)
  unfolding attribute_checks
  of-attribute seg el i a = more _ _ _ _ _ (Broken.attribute_wrong a) (more _ _ _ _ _ (Broken.text_wrong a) none)

  of_node : (seg el : ℕ) → UsedNode ed b seg el → Rows (node_checks ed b seg el)
  unfolding node_checks attribute_range_checks node_attribute_checks
  of_node seg el u =
      more _ _ _ _ _ (Broken.node_wrong u)
      (more _ _ _ _ _ (Broken.attributes-out u)
      (then _ _
      (all-each Row (attribute_checks ed b (node_at ed b seg el)) (attribute_count b (node_at ed b seg el)) 0
      (λ i l h. of-attribute seg el i (record { node = u; attribute = omega arith })))
      (more _ _ _ _ _ (Broken.children_wrong u) none)))

  -- every used node in file order
  of-used : (f : ℕ → ℕ → List Check) → ((seg el : ℕ) → UsedNode ed b seg el → Rows (f seg el))
      → Rows (each (λ seg. each (f seg) (used_of (node_size ed) b (nodes_at ed b) seg) 0) (count_of b (nodes_at ed b)) 0)
  of-used f g =
      all-each Row (λ seg. each (f seg) (used_of (node_size ed) b (nodes_at ed b) seg) 0) (count_of b (nodes_at ed b)) 0
      (λ seg l h. all-each Row (f seg) (used_of (node_size ed) b (nodes_at ed b) seg) 0 (λ el m e. g seg el (record { seg_in = omega arith; el_in = omega arith })))

  of-nodes : Rows (all_node_checks ed b)
  unfolding all_node_checks segment_node_checks
  of-nodes = more _ _ _ _ _ Broken.no_root (of-used (node_checks ed b) of_node)

  -- ---- 20 to 22

  of_range : (seg el : ℕ) → UsedNode ed b seg el → Rows (range_checks ed b seg el)
  unfolding range_checks
  of_range seg el u = more _ _ _ _ _ (Broken.range_taken u) none

  deepest : (DepthRule ed b → ⊥) → Broken ed b room 22 (node_of ed b (first_or 0 (ends (tree_of ed b) most_levels 0)))
  unfolding depth_checks
  deepest f =
      let w = depth-first ed b (stop 22 (node_of ed b (first_or 0 (ends (tree_of ed b) most_levels 0))) (DepthRule ed b) (depth_rule? ed b) [] f) in
      subst (Broken ed b room 22) (sym w.1.1) (Broken.too_deep w.1.0 w.1.2)

  of_tree : Rows (tree_checks ed b room)
  unfolding tree_checks room_checks all_range_checks segment_range_checks depth_checks
  of_tree = then _ _ (more _ _ _ _ _ Broken.room-short none) (then _ _ (of-used (range_checks ed b) of_range) (more _ _ _ _ _ deepest none))

  -- ---- all of them

  of-all : Rows (accept_checks ed b room)
  unfolding accept_checks
  of-all =
      then _ _ of_layout
      (then _ _ of_values (then _ _ of-names (then _ _ of-special (then _ _ of-all-keys (then _ _ of-nodes of_tree)))))

  pub refused-row : {n p : ℕ} → verdict_of ed b room ≡ Refused n p → Broken ed b room n p
  unfolding verdict_of
  refused-row e = all-broken (Broken ed b room) (accept_checks ed b room) of-all e

-- the numbers of acceptance are 1 to 23
pub row_number : {ed : Edition} {b : List ℕ} {room n p : ℕ} → Broken ed b room n p → (1 ≤ n) × (n ≤ 23)
row_number (Broken.over_limit x) = (omega arith, omega arith)
row_number (Broken.runs_past x y) = (omega arith, omega arith)
row_number (Broken.version_wrong x) = (omega arith, omega arith)
row_number (Broken.word_not_0 x y z) = (omega arith, omega arith)
row_number (Broken.too_few x y) = (omega arith, omega arith)
row_number (Broken.too_many x y) = (omega arith, omega arith)
row_number (Broken.footer_not_0 x) = (omega arith, omega arith)
row_number (Broken.bytes_after x) = (omega arith, omega arith)
row_number (Broken.unresolved x y) = (omega arith, omega arith)
row_number (Broken.length_wrong x y) = (omega arith, omega arith)
row_number (Broken.hash_wrong x y) = (omega arith, omega arith)
row_number (Broken.misplaced x y) = (omega arith, omega arith)
row_number (Broken.index_wrong x y) = (omega arith, omega arith)
row_number (Broken.same_text x y) = (omega arith, omega arith)
row_number (Broken.not_carried x y z w u) = (omega arith, omega arith)
row_number (Broken.not-special x) = (omega arith, omega arith)
row_number (Broken.key_wrong x y z) = (omega arith, omega arith)
row_number (Broken.no_root x) = (omega arith, omega arith)
row_number (Broken.node_wrong x y) = (omega arith, omega arith)
row_number (Broken.attributes-out x y) = (omega arith, omega arith)
row_number (Broken.attribute_wrong x y) = (omega arith, omega arith)
row_number (Broken.text_wrong x y) = (omega arith, omega arith)
row_number (Broken.children_wrong x y) = (omega arith, omega arith)
row_number (Broken.room-short x) = (omega arith, omega arith)
row_number (Broken.range_taken x y) = (omega arith, omega arith)
row_number (Broken.too_deep x y) = (omega arith, omega arith)
