-- The parts of a file in order, and refusals 1 to 6 along it (FORMAT, "File layout", "Refusals").
use Rattle.std.specs.Prelude.{ℕ, ◌+◌, ◌*◌, ◌≤◌, ◌<◌, ◌≡◌, List, [], ◌∷◌, ◌++◌, length}
use Rattle.verdict.specs.Checks.{Check, at_most, equal}
use Rattle.le.specs.Le.{u32_at}
use Rattle.region.specs.Region.{Laid, end_of}
use Rattle.region.specs.Checks.{field, region_checks}
use Rattle.layout.specs.Header.{header_checks, key_count, key_at, key_checks}
use Rattle.layout.specs.Table.{Table, table, table_end, table_checks, TableLaid}
use Rattle.layout.specs.Edition.{attribute_size, node_size}
use Rattle.layout.specs.declared.Edition.{Edition}

-- No gaps: each part starts where the one before ends.
unfoldable pub attributes_at : List ℕ → ℕ
attributes_at b = key_at (key_count b)

unfoldable pub nodes_at : Edition → List ℕ → ℕ
nodes_at ed b = end_of (attribute_size ed) b (attributes_at b)

unfoldable pub values_at : Edition → List ℕ → ℕ
values_at ed b = end_of (node_size ed) b (nodes_at ed b)

-- The values table has 1,024 buckets, the names table 512.
abbrev pub value_bucket_count : ℕ
value_bucket_count = 1024

abbrev pub name_bucket_count : ℕ
name_bucket_count = 512

unfoldable pub values : Edition → List ℕ → Table
values ed b = table b (values_at ed b) value_bucket_count

unfoldable pub names_at : Edition → List ℕ → ℕ
names_at ed b = table_end (values ed b)

unfoldable pub names : Edition → List ℕ → Table
names ed b = table b (names_at ed b) name_bucket_count

unfoldable pub footer_at : Edition → List ℕ → ℕ
footer_at ed b = table_end (names ed b)

-- An address count has no limit of its own but that of its four bytes; names have at most 65,536.
unfoldable pub values_most : ℕ
values_most = 4294967295

unfoldable pub names_most : ℕ
names_most = 65536

-- The footer is 0, and the file ends there.
unfoldable pub footer_checks : Edition → List ℕ → List Check
footer_checks ed b =
    field b (footer_at ed b) 4
    ∷ equal 6 (footer_at ed b) (u32_at b (footer_at ed b)) 0
    ∷ at_most 6 (footer_at ed b + 4) (length b) (footer_at ed b + 4)
    ∷ []

-- A file has at most 1,073,741,824 bytes.
unfoldable pub size_checks : List ℕ → List Check
size_checks b = at_most 1 0 (length b) 1073741824 ∷ []

-- 1; 2 to 5 along the file up to the end of the nodes.
unfoldable pub front_checks : Edition → List ℕ → List Check
front_checks ed b =
    size_checks b
    ++ (header_checks b
    ++ (key_checks b
    ++ (region_checks (attribute_size ed) b (attributes_at b)
    ++ region_checks (node_size ed) b (nodes_at ed b))))

-- 1; 2 to 6 along the file.
unfoldable pub layout_checks : Edition → List ℕ → List Check
layout_checks ed b = front_checks ed b ++ (table_checks (values ed b) values_most ++ (table_checks (names ed b) names_most ++ footer_checks ed b))

-- What they leave of the file, rule by rule.
pub record LaidOut (ed : Edition) (b : List ℕ) : Type 0 where
  pub small : length b ≤ 1073741824
  pub header : 32 ≤ length b
  pub version : u32_at b 0 ≡ 6
  pub zero_words : (i : ℕ) → i < 4 → u32_at b (16 + 4 * i) ≡ 0
  pub some_key : 1 ≤ key_count b
  pub few-keys : key_count b ≤ 4096
  pub keys : attributes_at b ≤ length b
  pub attributes : Laid (attribute_size ed) b (attributes_at b)
  pub nodes : Laid (node_size ed) b (nodes_at ed b)
  pub values : TableLaid (values ed b) values_most
  pub names : TableLaid (names ed b) names_most
  pub footer : u32_at b (footer_at ed b) ≡ 0
  pub ends : footer_at ed b + 4 ≡ length b
