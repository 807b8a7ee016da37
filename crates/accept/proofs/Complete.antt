-- A file that is accepted breaks no row of the table of refusals. Assumes nothing.
use Prim.Native.Nat.{ℕ, ◌+◌, ◌≤◌}
use native.Mathlib.Omega.{arith}
use mathlib.Core.Path.{◌≡◌, refl, subst}
use mathlib.Core.List.{List}
use lib.ListN.{length}
use Rattle.region.specs.Region.{Laid}
use Rattle.layout.specs.Header.{keys_at, key_at}
use Rattle.layout.specs.Table.{Table, table_end, TableLaid}
use Rattle.layout.specs.Layout.{attributes_at, values, names, LaidOut}
use Rattle.layout.specs.declared.Edition.{Edition}
use Rattle.strings.specs.Rules.{TableRules}
use Rattle.strings.proofs.Accepted.{Good, all_good, strings_parts, strings_iff}
use Rattle.tree.specs.File.{used_node_count}
use Rattle.tree.proofs.Addresses.{used-of}
use Rattle.accept.specs.Rules.{FileRules}
use Rattle.accept.specs.Refusals.{RegionOf, TableOf, Field, Limited, EntryOf, Broken}

-- ---- 2 and 5: what is laid out

module _ (ed : Edition) (b : List ℕ) (g : LaidOut ed b) where
  laid_region : {size r : ℕ} → RegionOf ed b size r → Laid size b r
  unfolding values names
  laid_region RegionOf.attributes = g.attributes
  laid_region RegionOf.nodes = g.nodes
  laid_region RegionOf.value-characters = g.values.characters
  laid_region RegionOf.name-characters = g.names.characters

  laid_table : {t : Table} {most : ℕ} → TableOf ed b t most → TableLaid t most × (t.bytes ≡ b)
  unfolding values names
  laid_table TableOf.of_values = (g.values, refl)
  laid_table TableOf.of-names = (g.names, refl)

  in_file : {t : Table} {most n : ℕ} → TableOf ed b t most → n ≤ length t.bytes → n ≤ length b
  in_file {n = n} o l = subst (λ (s : List ℕ). n ≤ length s) (laid_table o).1 l

  field_in : {at width : ℕ} → Field ed b at width → at + width ≤ length b
  unfolding keys_at key_at attributes_at table_end
  field_in Field.version = omega (arith, g.header)
  field_in Field.timestamp = omega (arith, g.header)
  field_in Field.revision = omega (arith, g.header)
  field_in (Field.zero_word i l) = omega (arith, g.header)
  field_in Field.key-count = omega (arith, g.keys)
  field_in Field.all-keys = omega (arith, g.keys)
  field_in (Field.segment-count r) = (laid_region r).head
  field_in (Field.full-count r s l) = omega (arith, (laid_region r).fits s l)
  field_in (Field.used-count r s l) = omega (arith, (laid_region r).fits s l)
  field_in (Field.elements r s l) = (laid_region r).fits s l
  field_in (Field.entry-count o k l) = omega (arith, in_file o ((laid_table o).0.bucket k l))
  field_in (Field.bucket-entries o k l) = in_file o ((laid_table o).0.bucket k l)
  field_in (Field.address-count o) = in_file o (laid_table o).0.list
  field_in (Field.addresses o) = in_file o (laid_table o).0.positions
  field_in Field.footer = omega (arith, g.ends)

  least_kept : {at least n most : ℕ} → Limited ed b at least n most → least ≤ n
  least_kept Limited.of-keys = g.some_key
  least_kept (Limited.of_segments r) = omega arith
  least_kept (Limited.of-full r s l) = omega arith
  least_kept (Limited.of-used r s l) = omega arith
  least_kept (Limited.of-addresses o) = (laid_table o).0.some

  most-kept : {at least n most : ℕ} → Limited ed b at least n most → n ≤ most
  most-kept Limited.of-keys = g.few-keys
  most-kept (Limited.of_segments r) = (laid_region r).few
  most-kept (Limited.of-full r s l) = (laid_region r).full s l
  most-kept (Limited.of-used r s l) = (laid_region r).used s l
  most-kept (Limited.of-addresses o) = (laid_table o).0.few

module _ (ed : Edition) (b : List ℕ) (f : FileRules ed b) where
  table-rules : {t : Table} {most : ℕ} → TableOf ed b t most → TableRules t
  table-rules TableOf.of_values = f.value-table
  table-rules TableOf.of-names = f.name-table

  good : {t : Table} {k j : ℕ} → EntryOf ed b t k j → Good t k j
  good {t} e = all_good t (strings_parts t ((strings_iff t).1 (table-rules e.of))).0 _ _ e.bucket e.entry

  -- ---- row by row

  pub none-broken : {room n p : ℕ} → used_node_count ed b ≤ room → Broken ed b room n p → ⊥
  none-broken h (Broken.over_limit x) = x f.laid.small
  none-broken h (Broken.runs_past w x) = x (field_in ed b f.laid w)
  none-broken h (Broken.version_wrong x) = x f.laid.version
  none-broken h (Broken.word_not_0 i l x) = x (f.laid.zero_words i l)
  none-broken h (Broken.too_few w x) = x (least_kept ed b f.laid w)
  none-broken h (Broken.too_many w x) = x (most-kept ed b f.laid w)
  none-broken h (Broken.footer_not_0 x) = x f.laid.footer
  none-broken h (Broken.bytes_after x) = x (omega (arith, f.laid.ends))
  none-broken h (Broken.unresolved e x) = x (good e).resolved
  none-broken h (Broken.length_wrong e x) = x (good e).sized
  none-broken h (Broken.hash_wrong e x) = x (good e).hashed
  none-broken h (Broken.misplaced e x) = x (good e).placed
  none-broken h (Broken.index_wrong e x) = x (good e).indexed
  none-broken h (Broken.same_text e x) = (good e).alone x
  none-broken h (Broken.not_carried o i l m x) = x ((table-rules o).carried i l m)
  none-broken h (Broken.not-special x) = x f.special
  none-broken h (Broken.key_wrong k l x) = x (f.key k l)
  none-broken h (Broken.no_root x) = x f.nodes.root
  none-broken h (Broken.node_wrong u x) = x (f.nodes.each _ _ u).node
  none-broken h (Broken.attributes-out u x) = x (f.nodes.each _ _ u).attributes
  none-broken h (Broken.attribute_wrong a x) = x ((f.nodes.each _ _ a.node).attribute _ a.attribute)
  none-broken h (Broken.text_wrong a x) = x ((f.nodes.each _ _ a.node).text _ a.attribute)
  none-broken h (Broken.children_wrong u x) = x (f.nodes.each _ _ u).children
  none-broken h (Broken.room-short x) = x h
  none-broken h (Broken.range_taken u x) = x (f.range _ (used-of ed b f.laid.nodes _ _ u))
  none-broken h (Broken.too_deep e d) = f.depth (d.places, e, d.long, d.chain)
