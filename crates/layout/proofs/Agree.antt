-- The parts of a file stay where they are, and its view still fits, where four bytes among the attributes change. Groundwork for request
-- T-12. Assumes nothing.
use Prim.Native.Nat.{ℕ, zero, suc, ◌+◌, ◌*◌, ◌≤◌, ◌<◌}
use native.Mathlib.Omega.{arith}
use mathlib.Core.Path.{◌≡◌, sym, ◌∙◌}
use mathlib.Core.Logic.{inl, inr}
use mathlib.Core.List.{List}
use Rattle.le.specs.Floats.{double_at}
use Rattle.le.proofs.Agree.{Agree, u16_same, u32_same, u64_same}
use Rattle.region.specs.Region.{end_of, start_of, count_of}
use Rattle.region.proofs.Agree.{Alike, clear_behind, clear_within, alike, end_same, total_same, laid_same, mapped-same, starts_kept, counts_kept, start_order, start_behind}
use Rattle.layout.specs.Header.{header_of, keys_at, key_count, key_at}
use Rattle.layout.specs.Table.{table, bucket_at, entries, entry_hash, entry_length, entry_index, entry_segment, entry_element, entry_at, hash_of, length_of, index_of, segment_of, element_of, list_at, count, position_at, listed_segment, listed_element, table_end, TableLaid, BucketStarts}
use Rattle.layout.specs.Edition.{attribute_size, node_size}
use Rattle.layout.specs.Layout.{attributes_at, nodes_at, values_at, values, names_at, names, footer_at, LaidOut, value_bucket_count, name_bucket_count}
use Rattle.layout.specs.inner.View.{PlacesFit, Fits}
use Rattle.layout.specs.declared.Places.{Places}
use Rattle.layout.specs.declared.View.{View}
use Rattle.layout.specs.declared.Edition.{Edition}

-- the table at an offset has the same characters, entries and list in both files
pub record AlikeTable (b c : List ℕ) (at n : ℕ) : Type 0 where
  pub chars : Alike 2 b c at
  pub bucket : (k : ℕ) → bucket_at (table c at n) k ≡ bucket_at (table b at n) k
  pub entries : (k : ℕ) → entries (table c at n) k ≡ entries (table b at n) k
  pub hash : (k j : ℕ) → hash_of (table c at n) k j ≡ hash_of (table b at n) k j
  pub long : (k j : ℕ) → length_of (table c at n) k j ≡ length_of (table b at n) k j
  pub index : (k j : ℕ) → index_of (table c at n) k j ≡ index_of (table b at n) k j
  pub segment : (k j : ℕ) → segment_of (table c at n) k j ≡ segment_of (table b at n) k j
  pub element : (k j : ℕ) → element_of (table c at n) k j ≡ element_of (table b at n) k j
  pub count : count (table c at n) ≡ count (table b at n)
  pub listed-segment : (i : ℕ) → listed_segment (table c at n) i ≡ listed_segment (table b at n) i
  pub listed-element : (i : ℕ) → listed_element (table c at n) i ≡ listed_element (table b at n) i
  pub ends : table_end (table c at n) ≡ table_end (table b at n)

module _ {b c : List ℕ} {x : ℕ} (a : Agree b c x) (at n : ℕ) (h : x + 4 ≤ at) where
  chars : Alike 2 b c at
  chars = alike a 2 at (clear_behind 2 b at x h)

  low : (k : ℕ) → x + 4 ≤ bucket_at (table b at n) k
  unfolding bucket_at end_of
  low zero = omega (arith, start_behind 2 b at (count_of b at))
  low (suc k) = omega (arith, low k)

  bucket-same : (k : ℕ) → bucket_at (table c at n) k ≡ bucket_at (table b at n) k
  unfolding bucket_at
  bucket-same zero = end_same chars
  bucket-same (suc k) = rw (bucket-same k, u32_same a _ (inr (low k)))

  count_same : count (table c at n) ≡ count (table b at n)
  unfolding count list_at
  count_same = rw (bucket-same n) (u32_same a _ (inr (low n)))

  pub alike-table : AlikeTable b c at n
  unfolding entries entry_hash entry_length entry_index entry_segment entry_element hash_of length_of index_of segment_of element_of entry_at listed_segment listed_element position_at list_at table_end
  alike-table =
      record {
        chars = chars;
        bucket = bucket-same;
        entries = λ k. rw (bucket-same k) (u32_same a _ (inr (low k)));
        hash = λ k j. rw (bucket-same k) (u32_same a _ (inr (omega (arith, low k))));
        long = λ k j. rw (bucket-same k) (u32_same a _ (inr (omega (arith, low k))));
        index = λ k j. rw (bucket-same k) (u32_same a _ (inr (omega (arith, low k))));
        segment = λ k j. rw (bucket-same k) (u16_same a _ (inr (omega (arith, low k))));
        element = λ k j. rw (bucket-same k) (u16_same a _ (inr (omega (arith, low k))));
        count = count_same;
        listed-segment = λ i. rw (bucket-same n) (u16_same a _ (inr (omega (arith, low n))));
        listed-element = λ i. rw (bucket-same n) (u16_same a _ (inr (omega (arith, low n))));
        ends = rw (bucket-same n, count_same);
      }

  table_behind : x + 4 ≤ table_end (table b at n)
  unfolding table_end list_at
  table_behind = omega (arith, low n)

module _ {b c : List ℕ} {at n : ℕ} (a : AlikeTable b c at n) where
  list_same : list_at (table c at n) ≡ list_at (table b at n)
  unfolding list_at
  list_same = a.bucket n

  table-laid : {most : ℕ} → TableLaid (table b at n) most → TableLaid (table c at n) most
  table-laid g =
      record {
        characters = laid_same a.chars g.characters;
        bucket = λ k h. rw (a.bucket k, a.entries k, a.chars.long) (g.bucket k h);
        list = rw (list_same, a.chars.long) g.list;
        some = rw a.count g.some;
        few = rw a.count g.few;
        positions = rw (a.ends, a.chars.long) g.positions;
      }

  buckets-kept : {xs : List ℕ} → BucketStarts (table b at n) xs → BucketStarts (table c at n) xs
  buckets-kept g = record { long = g.long; at = λ k l. g.at k l ∙ sym (a.bucket k) }

-- ---- the whole file, where the four bytes are among the elements of one segment of the attributes

pub record Inside (ed : Edition) (b : List ℕ) (x : ℕ) : Type 0 where
  pub segment : ℕ
  pub seg_in : segment < count_of b (attributes_at b)
  pub from : start_of (attribute_size ed) b (attributes_at b) segment + 8 ≤ x
  pub till : x + 4 ≤ start_of (attribute_size ed) b (attributes_at b) (segment + 1)

-- each part has the same offset and the same counts in both files
pub record AlikeFile (ed : Edition) (b c : List ℕ) : Type 0 where
  pub keys : key_count c ≡ key_count b
  pub attributes-at : attributes_at c ≡ attributes_at b
  pub nodes-at : nodes_at ed c ≡ nodes_at ed b
  pub values-at : values_at ed c ≡ values_at ed b
  pub names-at : names_at ed c ≡ names_at ed b
  pub attributes : Alike (attribute_size ed) b c (attributes_at b)
  pub nodes : Alike (node_size ed) b c (nodes_at ed b)
  pub values : AlikeTable b c (values_at ed b) value_bucket_count
  pub names : AlikeTable b c (names_at ed b) name_bucket_count

module _ {ed : Edition} {b c : List ℕ} {x : ℕ} (a : Agree b c x) (h : Inside ed b x) where
  pub front : attributes_at b + 4 ≤ x
  front = omega (arith, start_behind (attribute_size ed) b (attributes_at b) h.segment)

  keys-same : key_count c ≡ key_count b
  unfolding key_count attributes_at key_at keys_at
  keys-same = u32_same a 32 (inl (omega (arith, front)))

  attributes-same : attributes_at c ≡ attributes_at b
  unfolding attributes_at
  attributes-same = rw keys-same

  attributes-alike : Alike (attribute_size ed) b c (attributes_at b)
  attributes-alike = alike a (attribute_size ed) _ (clear_within (attribute_size ed) b (attributes_at b) x h.segment h.from h.till)

  nodes-same : nodes_at ed c ≡ nodes_at ed b
  unfolding nodes_at
  nodes-same = rw attributes-same (end_same attributes-alike)

  pub nodes_behind : x + 4 ≤ nodes_at ed b
  unfolding nodes_at end_of
  nodes_behind = omega (arith, h.till, start_order (attribute_size ed) b (attributes_at b) (h.segment + 1) (count_of b (attributes_at b)) (omega (arith, h.seg_in)))

  nodes-alike : Alike (node_size ed) b c (nodes_at ed b)
  nodes-alike = alike a (node_size ed) _ (clear_behind (node_size ed) b (nodes_at ed b) x nodes_behind)

  pub values_behind : x + 4 ≤ values_at ed b
  unfolding values_at end_of
  values_behind = omega (arith, nodes_behind, start_behind (node_size ed) b (nodes_at ed b) (count_of b (nodes_at ed b)))

  values_same : values_at ed c ≡ values_at ed b
  unfolding values_at
  values_same = rw nodes-same (end_same nodes-alike)

  values-alike : AlikeTable b c (values_at ed b) value_bucket_count
  values-alike = alike-table a _ value_bucket_count values_behind

  pub names_behind : x + 4 ≤ names_at ed b
  unfolding names_at values
  names_behind = table_behind a (values_at ed b) value_bucket_count values_behind

  names_same : names_at ed c ≡ names_at ed b
  unfolding names_at values
  names_same = rw values_same values-alike.ends

  names-alike : AlikeTable b c (names_at ed b) name_bucket_count
  names-alike = alike-table a _ name_bucket_count names_behind

  footer-same : footer_at ed c ≡ footer_at ed b
  unfolding footer_at names
  footer-same = rw names_same names-alike.ends

  footer_behind : x + 4 ≤ footer_at ed b
  unfolding footer_at names
  footer_behind = table_behind a (names_at ed b) name_bucket_count names_behind

  pub alike_file : AlikeFile ed b c
  alike_file =
      record {
        keys = keys-same;
        attributes-at = attributes-same;
        nodes-at = nodes-same;
        values-at = values_same;
        names-at = names_same;
        attributes = attributes-alike;
        nodes = nodes-alike;
        values = values-alike;
        names = names-alike;
      }

  pub laid_out : LaidOut ed b → LaidOut ed c
  unfolding values names attributes_at key_at keys_at
  laid_out g =
      record {
        small = rw a.long g.small;
        header = rw a.long g.header;
        version = u32_same a 0 (inl (omega (arith, front))) ∙ g.version;
        zero_words = λ i l. u32_same a (16 + 4 * i) (inl (omega (arith, front))) ∙ g.zero_words i l;
        some_key = rw keys-same g.some_key;
        few-keys = rw keys-same g.few-keys;
        keys = rw (keys-same, a.long) g.keys;
        attributes = rw keys-same (laid_same attributes-alike g.attributes);
        nodes = rw nodes-same (laid_same nodes-alike g.nodes);
        values = rw values_same (table-laid values-alike g.values);
        names = rw names_same (table-laid names-alike g.names);
        footer = rw footer-same (u32_same a (footer_at ed b) (inr footer_behind) ∙ g.footer);
        ends = rw (footer-same, a.long) g.ends;
      }

  -- a view that fits the one file fits the other
  header-same : header_of c ≡ header_of b
  unfolding header_of double_at attributes_at key_at keys_at
  header-same =
      rw (u32_same a 0 (inl (omega (arith, front))), u64_same a 4 (inl (omega (arith, front))), u32_same a 12 (inl (omega (arith, front))))

  placed_same : {p : Places} → PlacesFit ed b p → PlacesFit ed c p
  unfolding values names
  placed_same g =
      record {
        keys = g.keys ∙ sym keys-same;
        attributes = rw attributes-same (mapped-same attributes-alike g.attributes);
        nodes = rw nodes-same (mapped-same nodes-alike g.nodes);
        used_nodes = rw nodes-same (g.used_nodes ∙ sym (total_same nodes-alike));
        value_chars = rw values_same (mapped-same values-alike.chars g.value_chars);
        value_list = rw values_same (g.value_list ∙ sym (list_same values-alike));
        name_chars = rw names_same (mapped-same names-alike.chars g.name_chars);
        name_list = rw names_same (g.name_list ∙ sym (list_same names-alike));
      }

  pub fits-same : {v : View} → Fits ed b v → Fits ed c v
  unfolding values names
  fits-same g =
      record {
        laid = laid_out g.laid;
        header = g.header ∙ sym header-same;
        places = placed_same g.places;
        attribute_segments = rw attributes-same (starts_kept attributes-alike g.attribute_segments);
        node_segments = rw nodes-same (starts_kept nodes-alike g.node_segments);
        node_counts = rw nodes-same (counts_kept nodes-alike g.node_counts);
        value_segments = rw values_same (starts_kept values-alike.chars g.value_segments);
        name_segments = rw names_same (starts_kept names-alike.chars g.name_segments);
        value_buckets = rw values_same (buckets-kept values-alike g.value_buckets);
        name_buckets = rw names_same (buckets-kept names-alike g.name_buckets);
      }
