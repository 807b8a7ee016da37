-- Refusals 1 to 6 find nothing exactly when the file is laid out. Assumes nothing.
use Prim.Native.Nat.{ℕ, zero, suc, ◌+◌, ◌*◌, ◌≤◌, ◌<◌}
use native.Mathlib.Numerals.{add-one}
use native.Mathlib.Omega.{arith}
use mathlib.Core.Path.{◌≡◌, sym, ◌∙◌}
use mathlib.Core.Logic.{◌↔◌}
use mathlib.Core.List.{List, ◌++◌}
use lib.ListN.{length}
use Rattle.le.specs.Le.{u32_at}
use Rattle.verdict.specs.Checks.{Check, first_fault, each}
use Rattle.verdict.specs.Verdict.{Accepted}
use Rattle.verdict.proofs.Laws.{Clean, pass, clean_inv, append_inv, fault_append, fault_none, each_inv, each_clean}
use Rattle.region.specs.Region.{end_of}
use Rattle.region.specs.Checks.{region_checks}
use Rattle.region.proofs.Accepted.{laid_iff}
use Rattle.region.proofs.Laws.{end_le}
use Rattle.layout.specs.Header.{zero_word_checks, header_checks, keys_at, key_count, key_at, key_checks}
use Rattle.layout.specs.Table.{Table, bucket_at, entries, list_at, table_end, bucket_checks, list_checks, table_checks, TableLaid}
use Rattle.layout.specs.Edition.{attribute_size, node_size}
use Rattle.layout.specs.Layout.{attributes_at, nodes_at, values_at, values, values_most, names_at, names, names_most, footer_at, size_checks, front_checks, footer_checks, layout_checks, LaidOut}
use Rattle.layout.specs.declared.Edition.{Edition}
use Rattle.layout.proofs.Laws.{bucket-first, bucket_next}

-- one behind the other
both : (xs ys : List Check) → Clean xs → Clean ys → Clean (xs ++ ys)
both xs ys h l = fault_append xs ys h ∙ l

pub region_end : (size : ℕ) (b : List ℕ) (r : ℕ) → Clean (region_checks size b r) → end_of size b r ≤ length b
region_end size b r e = end_le size b r ((laid_iff size b r).0 e)

module _ (t : Table) where
  bucket_clean : (k : ℕ) → bucket_at t k + 4 + 16 * entries t k ≤ length t.bytes → Clean (bucket_checks t k)
  unfolding bucket_checks
  bucket_clean k h = pass _ _ _ _ _ (omega arith) ∙ pass _ _ _ _ _ h ∙ fault_none

  bucket_inv : (k : ℕ) → Clean (bucket_checks t k) → bucket_at t k + 4 + 16 * entries t k ≤ length t.bytes
  unfolding bucket_checks
  bucket_inv k e = (clean_inv _ _ _ _ _ (clean_inv _ _ _ _ _ e).1).0

  pub bucket_end : (k : ℕ) → Clean (bucket_checks t k) → bucket_at t (k + 1) ≤ length t.bytes
  bucket_end k e = omega (arith, bucket_inv k e, bucket_next t k)

  buckets_in : (n : ℕ) → bucket_at t 0 ≤ length t.bytes → Clean (each (bucket_checks t) n 0) → bucket_at t n ≤ length t.bytes
  buckets_in zero h e = h
  buckets_in (suc n) h e = rw (sym (add-one n)) (bucket_end n (each_inv (bucket_checks t) (suc n) 0 e n (omega arith) (omega arith)))

  pub list_in : Clean (region_checks 2 t.bytes t.at) → Clean (each (bucket_checks t) t.buckets 0) → list_at t ≤ length t.bytes
  unfolding list_at
  list_in h e = buckets_in t.buckets (omega (arith, bucket-first t, region_end 2 t.bytes t.at h)) e

module _ (t : Table) (most : ℕ) where
  accepted-table : Clean (table_checks t most) → TableLaid t most
  unfolding table_checks list_checks table_end
  accepted-table e =
      let r = append_inv (region_checks 2 t.bytes t.at) _ e in
      let s = append_inv (each (bucket_checks t) t.buckets 0) _ r.1 in
      let x = clean_inv _ _ _ _ _ s.1 in
      let y = clean_inv _ _ _ _ _ x.1 in
      let z = clean_inv _ _ _ _ _ y.1 in
      let w = clean_inv _ _ _ _ _ z.1 in
      record {
        characters = (laid_iff 2 t.bytes t.at).0 r.0;
        bucket = λ k h. bucket_inv t k (each_inv _ _ _ s.0 k (omega arith) (omega arith));
        list = x.0;
        some = y.0;
        few = z.0;
        positions = w.0;
      }

  table-accepted : TableLaid t most → Clean (table_checks t most)
  unfolding table_checks list_checks table_end
  table-accepted g =
      both _ _ ((laid_iff 2 t.bytes t.at).1 g.characters)
      (both _ _ (each_clean _ _ _ (λ k l h. bucket_clean t k (g.bucket k (omega arith))))
      (pass _ _ _ _ _ g.list ∙ pass _ _ _ _ _ g.some ∙ pass _ _ _ _ _ g.few ∙ pass _ _ _ _ _ g.positions ∙ fault_none))

  pub table_iff : first_fault (table_checks t most) ≡ Accepted ↔ TableLaid t most
  table_iff = (accepted-table, table-accepted)

  pub table-end : Clean (table_checks t most) → table_end t ≤ length t.bytes
  table-end e = (accepted-table e).positions

module _ (b : List ℕ) where
  zero_inv : (i : ℕ) → Clean (zero_word_checks b i) → (16 + 4 * i + 4 ≤ length b) × (u32_at b (16 + 4 * i) ≡ 0)
  unfolding zero_word_checks
  zero_inv i e = let x = clean_inv _ _ _ _ _ e in (x.0, (clean_inv _ _ _ _ _ x.1).0)

  zero_clean : (i : ℕ) → 16 + 4 * i + 4 ≤ length b → u32_at b (16 + 4 * i) ≡ 0 → Clean (zero_word_checks b i)
  unfolding zero_word_checks
  zero_clean i h e = pass _ _ _ _ _ h ∙ pass _ _ _ _ _ e ∙ fault_none

  header_inv : Clean (header_checks b) → (32 ≤ length b) × (u32_at b 0 ≡ 6) × ((i : ℕ) → i < 4 → u32_at b (16 + 4 * i) ≡ 0)
  unfolding header_checks
  header_inv e =
      let x = clean_inv _ _ _ _ _ e in
      let y = clean_inv _ _ _ _ _ x.1 in
      let z = clean_inv _ _ _ _ _ y.1 in
      let w = clean_inv _ _ _ _ _ z.1 in
      let g : (i : ℕ) → i < 4 → (16 + 4 * i + 4 ≤ length b) × (u32_at b (16 + 4 * i) ≡ 0) = λ i h. zero_inv i (each_inv _ _ _ w.1 i (omega arith) (omega arith)) in
      (omega (arith, (g 3 (omega arith)).0), y.0, λ i h. (g i h).1)

  header_clean : 32 ≤ length b → u32_at b 0 ≡ 6 → ((i : ℕ) → i < 4 → u32_at b (16 + 4 * i) ≡ 0) → Clean (header_checks b)
  unfolding header_checks
  header_clean h e g =
      pass _ _ _ _ _ (omega arith) ∙ pass _ _ _ _ _ e ∙ pass _ _ _ _ _ (omega arith) ∙ pass _ _ _ _ _ (omega arith)
      ∙ each_clean _ _ _ (λ i l m. zero_clean i (omega arith) (g i (omega arith)))

  keys_inv : Clean (key_checks b) → (1 ≤ key_count b) × (key_count b ≤ 4096) × (attributes_at b ≤ length b)
  unfolding key_checks attributes_at key_at
  keys_inv e =
      let x = clean_inv _ _ _ _ _ e in
      let y = clean_inv _ _ _ _ _ x.1 in
      let z = clean_inv _ _ _ _ _ y.1 in
      let w = clean_inv _ _ _ _ _ z.1 in
      (y.0, z.0, omega (arith, w.0))

  keys_clean : 1 ≤ key_count b → key_count b ≤ 4096 → attributes_at b ≤ length b → Clean (key_checks b)
  unfolding key_checks attributes_at key_at
  keys_clean h l m =
      pass _ _ _ _ _ (omega arith) ∙ pass _ _ _ _ _ h ∙ pass _ _ _ _ _ l ∙ pass _ _ _ _ _ (omega arith) ∙ fault_none

  pub header_end : Clean (header_checks b) → keys_at ≤ length b
  unfolding keys_at
  header_end e = (header_inv e).0

  pub keys_end : Clean (key_checks b) → attributes_at b ≤ length b
  keys_end e = (keys_inv e).2

module _ (ed : Edition) (b : List ℕ) where
  footer_inv : Clean (footer_checks ed b) → (u32_at b (footer_at ed b) ≡ 0) × (footer_at ed b + 4 ≡ length b)
  unfolding footer_checks
  footer_inv e =
      let x = clean_inv _ _ _ _ _ e in
      let y = clean_inv _ _ _ _ _ x.1 in
      let z = clean_inv _ _ _ _ _ y.1 in
      (y.0, omega (arith, x.0, z.0))

  footer_clean : u32_at b (footer_at ed b) ≡ 0 → footer_at ed b + 4 ≡ length b → Clean (footer_checks ed b)
  unfolding footer_checks
  footer_clean h l = pass _ _ _ _ _ (omega arith) ∙ pass _ _ _ _ _ h ∙ pass _ _ _ _ _ (omega arith) ∙ fault_none

  front_inv : Clean (front_checks ed b)
      → (length b ≤ 1073741824) × Clean (header_checks b) × Clean (key_checks b) × Clean (region_checks (attribute_size ed) b (attributes_at b))
      × Clean (region_checks (node_size ed) b (nodes_at ed b))
  unfolding front_checks size_checks
  front_inv e =
      let s = clean_inv _ _ _ _ _ e in
      let h = append_inv (header_checks b) _ s.1 in
      let k = append_inv (key_checks b) _ h.1 in
      let a = append_inv (region_checks (attribute_size ed) b (attributes_at b)) _ k.1 in
      (s.0, h.0, k.0, a.0, a.1)

  pub front_end : Clean (front_checks ed b) → (values_at ed b ≤ length b) × (length b ≤ 1073741824)
  unfolding values_at
  front_end e = let f = front_inv e in (region_end (node_size ed) b (nodes_at ed b) f.4, f.0)

  pub values_end : Clean (table_checks (values ed b) values_most) → names_at ed b ≤ length b
  unfolding values names_at
  values_end e = table-end (values ed b) values_most e

  pub names_end : Clean (table_checks (names ed b) names_most) → footer_at ed b ≤ length b
  unfolding names footer_at
  names_end e = table-end (names ed b) names_most e

  accepted_layout : Clean (layout_checks ed b) → LaidOut ed b
  unfolding layout_checks
  accepted_layout e =
      let r = append_inv (front_checks ed b) _ e in
      let v = append_inv (table_checks (values ed b) values_most) _ r.1 in
      let m = append_inv (table_checks (names ed b) names_most) _ v.1 in
      let f = front_inv r.0 in
      let h = header_inv b f.1 in
      let k = keys_inv b f.2 in
      let z = footer_inv m.1 in
      record {
        small = f.0;
        header = h.0;
        version = h.1;
        zero_words = h.2;
        some_key = k.0;
        few-keys = k.1;
        keys = k.2;
        attributes = (laid_iff (attribute_size ed) b (attributes_at b)).0 f.3;
        nodes = (laid_iff (node_size ed) b (nodes_at ed b)).0 f.4;
        values = (table_iff (values ed b) values_most).0 v.0;
        names = (table_iff (names ed b) names_most).0 m.0;
        footer = z.0;
        ends = z.1;
      }

  layout_accepted : LaidOut ed b → Clean (layout_checks ed b)
  unfolding layout_checks front_checks size_checks
  layout_accepted g =
      both _ _
      (pass _ _ _ _ _ g.small
      ∙ both _ _ (header_clean b g.header g.version g.zero_words)
      (both _ _ (keys_clean b g.some_key g.few-keys g.keys)
      (both _ _ ((laid_iff (attribute_size ed) b (attributes_at b)).1 g.attributes) ((laid_iff (node_size ed) b (nodes_at ed b)).1 g.nodes))))
      (both _ _ ((table_iff (values ed b) values_most).1 g.values)
      (both _ _ ((table_iff (names ed b) names_most).1 g.names) (footer_clean g.footer g.ends)))

  pub layout_iff : first_fault (layout_checks ed b) ≡ Accepted ↔ LaidOut ed b
  layout_iff = (accepted_layout, layout_accepted)
