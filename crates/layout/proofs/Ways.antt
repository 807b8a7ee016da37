-- The ways out of the scans of a table, of the front and of the whole file. Assumes nothing.
use Prim.Native.Nat.{ℕ, ◌≤◌}
use mathlib.Core.Path.{◌≡◌, subst, ◌∙◌}
use mathlib.Core.List.{List, ◌++◌}
use lib.ListN.{length}
use Rattle.verdict.specs.Checks.{first_fault, each}
use Rattle.verdict.specs.inner.Gives.{Ends}
use Rattle.verdict.specs.Verdict.{Refused}
use Rattle.verdict.proofs.Laws.{Clean, pass, stop, fault_append, fault_keep}
use Rattle.region.specs.Region.{end_of}
use Rattle.region.specs.Checks.{region_checks}
use Rattle.layout.specs.Header.{header_checks, key_checks}
use Rattle.layout.specs.Table.{Table, table, bucket_checks, list_checks, table_checks}
use Rattle.layout.specs.Edition.{attribute_size, node_size}
use Rattle.layout.specs.Layout.{attributes_at, nodes_at, values_at, values, values_most, names_at, names, names_most, size_checks, front_checks, footer_checks, layout_checks, value_bucket_count, name_bucket_count}
use Rattle.layout.specs.inner.Scanned.{TableScanned}
use Rattle.layout.specs.declared.tables.TableEnds.{TableEnds}
use Rattle.verdict.specs.declared.Refusal.{Refusal}
use Rattle.std.specs.Prelude.{Result}
use Rattle.layout.specs.declared.Edition.{Edition}

-- ---- a table: its characters, its buckets, its list

module _ (t : Table) (most : ℕ) where
  pub characters_stop : {n p : ℕ} → first_fault (region_checks 2 t.bytes t.at) ≡ Refused n p → first_fault (table_checks t most) ≡ Refused n p
  unfolding table_checks
  characters_stop q = fault_keep (region_checks 2 t.bytes t.at) _ q

  module _ (h : Clean (region_checks 2 t.bytes t.at)) where
    pub rows_stop : {n p : ℕ} → first_fault (each (bucket_checks t) t.buckets 0) ≡ Refused n p → first_fault (table_checks t most) ≡ Refused n p
    unfolding table_checks
    rows_stop q = fault_append (region_checks 2 t.bytes t.at) _ h ∙ fault_keep (each (bucket_checks t) t.buckets 0) _ q

    pub list_left : Clean (each (bucket_checks t) t.buckets 0) → first_fault (table_checks t most) ≡ first_fault (list_checks t most)
    unfolding table_checks
    list_left e = fault_append (region_checks 2 t.bytes t.at) _ h ∙ fault_append (each (bucket_checks t) t.buckets 0) _ e

-- ---- the front: its size, the header, the keys, the attributes, the nodes

module _ (ed : Edition) (b : List ℕ) where
  pub size_stop : (length b ≤ 1073741824 → ⊥) → first_fault (front_checks ed b) ≡ Refused 1 0
  unfolding front_checks size_checks
  size_stop h = stop _ _ _ _ _ h

  -- a region is scanned from where the code found the part before to end
  pub attributes-scanned : {x : Result ℕ Refusal} {e : ℕ} → e ≡ attributes_at b → Ends (first_fault (region_checks (attribute_size ed) b e)) (end_of (attribute_size ed) b e) x
      → Ends (first_fault (region_checks (attribute_size ed) b (attributes_at b))) (nodes_at ed b) x
  unfolding nodes_at
  attributes-scanned q h = rw q at h

  pub nodes-scanned : {x : Result ℕ Refusal} {e : ℕ} → e ≡ nodes_at ed b → Ends (first_fault (region_checks (node_size ed) b e)) (end_of (node_size ed) b e) x
      → Ends (first_fault (region_checks (node_size ed) b (nodes_at ed b))) (values_at ed b) x
  unfolding values_at
  nodes-scanned q h = rw q at h

  module _ (s : length b ≤ 1073741824) where
    pub header_stop : {n p : ℕ} → first_fault (header_checks b) ≡ Refused n p → first_fault (front_checks ed b) ≡ Refused n p
    unfolding front_checks size_checks
    header_stop q = pass _ _ _ _ _ s ∙ fault_keep (header_checks b) _ q

    module _ (h : Clean (header_checks b)) where
      pub keys_stop : {n p : ℕ} → first_fault (key_checks b) ≡ Refused n p → first_fault (front_checks ed b) ≡ Refused n p
      unfolding front_checks size_checks
      keys_stop q = pass _ _ _ _ _ s ∙ fault_append (header_checks b) _ h ∙ fault_keep (key_checks b) _ q

      module _ (k : Clean (key_checks b)) where
        regions_left : first_fault (front_checks ed b) ≡ first_fault (region_checks (attribute_size ed) b (attributes_at b) ++ region_checks (node_size ed) b (nodes_at ed b))
        unfolding front_checks size_checks
        regions_left = pass _ _ _ _ _ s ∙ fault_append (header_checks b) _ h ∙ fault_append (key_checks b) _ k

        pub attributes_stop : {n p : ℕ} → first_fault (region_checks (attribute_size ed) b (attributes_at b)) ≡ Refused n p → first_fault (front_checks ed b) ≡ Refused n p
        attributes_stop q = regions_left ∙ fault_keep _ _ q

        pub nodes-left : Clean (region_checks (attribute_size ed) b (attributes_at b)) → first_fault (front_checks ed b) ≡ first_fault (region_checks (node_size ed) b (nodes_at ed b))
        nodes-left a = regions_left ∙ fault_append _ _ a

-- ---- the file: its front, its values, its names, its footer

module _ (ed : Edition) (b : List ℕ) where
  -- a table is scanned from where the code found the part before to end, with as many buckets as it has places for
  pub values-scanned : {e n : ℕ} {r : Result TableEnds Refusal} {xs : List ℕ} → e ≡ values_at ed b → n ≡ value_bucket_count → TableScanned (table b e n) 4294967295 r xs
      → TableScanned (values ed b) values_most r xs
  unfolding values values_most
  values-scanned {e} {n} {r} {xs} q h s =
      subst (λ (m : ℕ). TableScanned (table b (values_at ed b) m) 4294967295 r xs) h
      (subst (λ (a : ℕ). TableScanned (table b a n) 4294967295 r xs) q s)

  pub names-scanned : {e n : ℕ} {r : Result TableEnds Refusal} {xs : List ℕ} → e ≡ names_at ed b → n ≡ name_bucket_count → TableScanned (table b e n) 65536 r xs
      → TableScanned (names ed b) names_most r xs
  unfolding names names_most
  names-scanned {e} {n} {r} {xs} q h s =
      subst (λ (m : ℕ). TableScanned (table b (names_at ed b) m) 65536 r xs) h
      (subst (λ (a : ℕ). TableScanned (table b a n) 65536 r xs) q s)

  pub front_refused : {n p : ℕ} → first_fault (front_checks ed b) ≡ Refused n p → first_fault (layout_checks ed b) ≡ Refused n p
  unfolding layout_checks
  front_refused q = fault_keep (front_checks ed b) _ q

  module _ (f : Clean (front_checks ed b)) where
    pub values-refused : {n p : ℕ} → first_fault (table_checks (values ed b) values_most) ≡ Refused n p → first_fault (layout_checks ed b) ≡ Refused n p
    unfolding layout_checks
    values-refused q = fault_append (front_checks ed b) _ f ∙ fault_keep (table_checks (values ed b) values_most) _ q

    module _ (v : Clean (table_checks (values ed b) values_most)) where
      pub names-refused : {n p : ℕ} → first_fault (table_checks (names ed b) names_most) ≡ Refused n p → first_fault (layout_checks ed b) ≡ Refused n p
      unfolding layout_checks
      names-refused q =
          fault_append (front_checks ed b) _ f ∙ fault_append (table_checks (values ed b) values_most) _ v ∙ fault_keep (table_checks (names ed b) names_most) _ q

      pub footer_left : Clean (table_checks (names ed b) names_most) → first_fault (layout_checks ed b) ≡ first_fault (footer_checks ed b)
      unfolding layout_checks
      footer_left m =
          fault_append (front_checks ed b) _ f ∙ fault_append (table_checks (values ed b) values_most) _ v ∙ fault_append (table_checks (names ed b) names_most) _ m
