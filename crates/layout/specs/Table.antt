-- A string table as it lies in the file (FORMAT, "String tables"): a segmented region of characters, its buckets, its address list.
use Rattle.std.specs.Prelude.{ℕ, zero, suc, ◌+◌, ◌-◌, ◌*◌, ◌≤◌, ◌<◌, ◌≡◌, List, [], ◌∷◌, ◌++◌, length, get_or}
use Rattle.verdict.specs.Checks.{Check, at_most, each}
use Rattle.le.specs.Le.{u16_at, u32_at}
use Rattle.region.specs.Region.{Laid, end_of}
use Rattle.region.specs.Checks.{field, region_checks}

-- The file, where the table starts, and how many buckets it has.
pub record Table : Type 0 where
  pub bytes : List ℕ
  pub at : ℕ
  pub buckets : ℕ

abbrev pub table : List ℕ → ℕ → ℕ → Table
table b at n = record { bytes = b; at = at; buckets = n }

-- Where bucket k starts: the first behind the characters, each later one behind the entries of the one before.
unfoldable pub bucket_at : Table → ℕ → ℕ
bucket_at t zero = end_of 2 t.bytes t.at
bucket_at t (suc k) = bucket_at t k + 4 + 16 * u32_at t.bytes (bucket_at t k)

-- How many entries bucket k has.
unfoldable pub entries : Table → ℕ → ℕ
entries t k = u32_at t.bytes (bucket_at t k)

-- The fields of the entry at offset e: hash, length, index, and the address, a segment number and an element number.
unfoldable pub entry_hash : List ℕ → ℕ → ℕ
entry_hash b e = u32_at b e

unfoldable pub entry_length : List ℕ → ℕ → ℕ
entry_length b e = u32_at b (e + 4)

unfoldable pub entry_index : List ℕ → ℕ → ℕ
entry_index b e = u32_at b (e + 8)

unfoldable pub entry_segment : List ℕ → ℕ → ℕ
entry_segment b e = u16_at b (e + 12)

unfoldable pub entry_element : List ℕ → ℕ → ℕ
entry_element b e = u16_at b (e + 14)

-- Where entry j of bucket k stands, and its fields.
unfoldable pub entry_at : Table → ℕ → ℕ → ℕ
entry_at t k j = bucket_at t k + 4 + 16 * j

unfoldable pub hash_of : Table → ℕ → ℕ → ℕ
hash_of t k j = entry_hash t.bytes (entry_at t k j)

unfoldable pub length_of : Table → ℕ → ℕ → ℕ
length_of t k j = entry_length t.bytes (entry_at t k j)

unfoldable pub index_of : Table → ℕ → ℕ → ℕ
index_of t k j = entry_index t.bytes (entry_at t k j)

unfoldable pub segment_of : Table → ℕ → ℕ → ℕ
segment_of t k j = entry_segment t.bytes (entry_at t k j)

unfoldable pub element_of : Table → ℕ → ℕ → ℕ
element_of t k j = entry_element t.bytes (entry_at t k j)

-- Where the address count stands, and the count.
unfoldable pub list_at : Table → ℕ
list_at t = bucket_at t t.buckets

unfoldable pub count : Table → ℕ
count t = u32_at t.bytes (list_at t)

-- Where list position i stands, counted from 1, and its address. There are count less one.
unfoldable pub position_at : Table → ℕ → ℕ
position_at t i = list_at t + 4 * i

unfoldable pub listed_segment : Table → ℕ → ℕ
listed_segment t i = u16_at t.bytes (position_at t i)

unfoldable pub listed_element : Table → ℕ → ℕ
listed_element t i = u16_at t.bytes (position_at t i + 2)

-- Where the table ends.
unfoldable pub table_end : Table → ℕ
table_end t = list_at t + 4 + 4 * (count t - 1)

-- Bucket k: its count, its entries.
unfoldable pub bucket_checks : Table → ℕ → List Check
bucket_checks t k = field t.bytes (bucket_at t k) 4 ∷ field t.bytes (bucket_at t k + 4) (16 * entries t k) ∷ []

-- The address list: a count of at least 1 and at most `most`, and count less one addresses.
unfoldable pub list_checks : Table → ℕ → List Check
list_checks t most =
    field t.bytes (list_at t) 4
    ∷ at_most 5 (list_at t) 1 (count t)
    ∷ at_most 5 (list_at t) (count t) most
    ∷ field t.bytes (list_at t + 4) (4 * (count t - 1))
    ∷ []

-- Refusals 2 and 5 along a table.
unfoldable pub table_checks : Table → ℕ → List Check
table_checks t most = region_checks 2 t.bytes t.at ++ (each (bucket_checks t) t.buckets 0 ++ list_checks t most)

-- What they leave of it.
pub record TableLaid (t : Table) (most : ℕ) : Type 0 where
  pub characters : Laid 2 t.bytes t.at
  pub bucket : (k : ℕ) → k < t.buckets → bucket_at t k + 4 + 16 * entries t k ≤ length t.bytes
  pub list : list_at t + 4 ≤ length t.bytes
  pub some : 1 ≤ count t
  pub few : count t ≤ most
  pub positions : table_end t ≤ length t.bytes

-- A list holds where each bucket starts.
pub record BucketStarts (t : Table) (xs : List ℕ) : Type 0 where
  pub long : length xs ≡ t.buckets
  pub at : (k : ℕ) → k < t.buckets → get_or xs k 0 ≡ bucket_at t k
