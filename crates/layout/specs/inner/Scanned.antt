-- What the scans of the front and of a table leave. Where a table is refused, nothing says what the starts hold.
use Rattle.std.specs.Prelude.{ℕ, ◌≡◌, List, Result}
use Rattle.verdict.specs.Checks.{first_fault, each}
use Rattle.verdict.specs.inner.Gives.{Gives}
use Rattle.verdict.specs.declared.Refusal.{Refusal}
use Rattle.layout.specs.Table.{Table, bucket_checks, list_at, table_end, table_checks, BucketStarts}
use Rattle.layout.specs.Layout.{attributes_at, nodes_at, values_at, front_checks}
use Rattle.layout.specs.declared.front.Front.{Front}
use Rattle.layout.specs.declared.tables.TableEnds.{TableEnds}
use Rattle.layout.specs.declared.Edition.{Edition}

-- The offsets of the front's regions, and where the nodes end.
pub record FrontFits (ed : Edition) (b : List ℕ) (f : Front) : Type 0 where
  pub attributes-at : f.attributes ≡ attributes_at b
  pub nodes-at : f.nodes ≡ nodes_at ed b
  pub end : f.end ≡ values_at ed b

-- The front: the first of refusals 1 to 5, or its offsets.
abbrev pub FrontScanned : Edition → List ℕ → Result Front Refusal → Type 0
FrontScanned ed b = Gives (first_fault (front_checks ed b)) (FrontFits ed b)

-- Where the buckets end, and where each one starts.
pub record BucketsFit (t : Table) (xs : List ℕ) (e : ℕ) : Type 0 where
  pub end : e ≡ list_at t
  pub buckets : BucketStarts t xs

-- The buckets: refusal 2, or their offsets.
abbrev pub BucketsScanned : Table → Result ℕ Refusal → List ℕ → Type 0
BucketsScanned t r xs = Gives (first_fault (each (bucket_checks t) t.buckets 0)) (BucketsFit t xs) r

-- Where a table's address count stands, where the table ends, and where its buckets start.
pub record TableFits (t : Table) (xs : List ℕ) (e : TableEnds) : Type 0 where
  pub list : e.list ≡ list_at t
  pub end : e.end ≡ table_end t
  pub buckets : BucketStarts t xs

-- The table: refusals 2 and 5, or its offsets.
abbrev pub TableScanned : Table → ℕ → Result TableEnds Refusal → List ℕ → Type 0
TableScanned t most r xs = Gives (first_fault (table_checks t most)) (TableFits t xs) r
