-- The checked view (FORMAT, "File layout"): the header report, the region places, and where each bucket starts; and its fit to the bytes.
use Rattle.std.specs.Prelude.{ℕ, ◌≡◌, List, Result}
use Rattle.verdict.specs.Checks.{first_fault}
use Rattle.verdict.specs.inner.Gives.{Gives}
use Rattle.verdict.specs.declared.Refusal.{Refusal}
use Rattle.region.specs.Region.{total_of}
use Rattle.region.specs.inner.Samples.{Mapped, Starts, Counts}
use Rattle.layout.specs.Header.{header_of, key_count}
use Rattle.layout.specs.Table.{list_at, BucketStarts}
use Rattle.layout.specs.Edition.{attribute_size, node_size}
use Rattle.layout.specs.Layout.{attributes_at, nodes_at, values_at, names_at, values, names, layout_checks, LaidOut}
use Rattle.layout.specs.declared.whole.Walk.{Walk}
use Rattle.layout.specs.declared.Places.{Places}
use Rattle.layout.specs.declared.View.{View}
use Rattle.layout.specs.declared.Edition.{Edition}

-- The places are those of the file.
pub record PlacesFit (ed : Edition) (b : List ℕ) (p : Places) : Type 0 where
  pub keys : p.keys ≡ key_count b
  pub attributes : Mapped (attribute_size ed) b (attributes_at b) p.attributes
  pub nodes : Mapped (node_size ed) b (nodes_at ed b) p.nodes
  pub used_nodes : p.used_nodes ≡ total_of (node_size ed) b (nodes_at ed b)
  pub value_chars : Mapped 2 b (values ed b).at p.value_chars
  pub value_list : p.value_list ≡ list_at (values ed b)
  pub name_chars : Mapped 2 b (names ed b).at p.name_chars
  pub name_list : p.name_list ≡ list_at (names ed b)

-- The fit of view and bytes.
pub record Fits (ed : Edition) (b : List ℕ) (v : View) : Type 0 where
  pub laid : LaidOut ed b
  pub header : v.header ≡ header_of b
  pub places : PlacesFit ed b v.places
  pub attribute_segments : Starts (attribute_size ed) b (attributes_at b) v.places.attributes.shift v.attribute_segments
  pub node_segments : Starts (node_size ed) b (nodes_at ed b) v.places.nodes.shift v.node_segments
  pub node_counts : Counts (node_size ed) b (nodes_at ed b) v.places.nodes.shift v.node_counts
  pub value_segments : Starts 2 b (values ed b).at v.places.value_chars.shift v.value_segments
  pub name_segments : Starts 2 b (names ed b).at v.places.name_chars.shift v.name_segments
  pub value_buckets : BucketStarts (values ed b) v.value_buckets
  pub name_buckets : BucketStarts (names ed b) v.name_buckets

-- The parts' offsets and the buckets' starts.
pub record WalkFits (ed : Edition) (b : List ℕ) (vs ns : List ℕ) (w : Walk) : Type 0 where
  pub laid : LaidOut ed b
  pub attributes-at : w.attributes ≡ attributes_at b
  pub nodes-at : w.nodes ≡ nodes_at ed b
  pub values-at : w.values ≡ values_at ed b
  pub value_list : w.value_list ≡ list_at (values ed b)
  pub names-at : w.names ≡ names_at ed b
  pub name_list : w.name_list ≡ list_at (names ed b)
  pub value_buckets : BucketStarts (values ed b) vs
  pub name_buckets : BucketStarts (names ed b) ns

-- A walk along the file: the first of refusals 1 to 6, or the offsets of its parts.
abbrev pub Walked : Edition → List ℕ → Result Walk Refusal → List ℕ → List ℕ → Type 0
Walked ed b r vs ns = Gives (first_fault (layout_checks ed b)) (WalkFits ed b vs ns) r

-- What layout answers: the first of refusals 1 to 6, or a view that fits.
abbrev pub Viewed : Edition → List ℕ → Result View Refusal → Type 0
Viewed ed b = Gives (first_fault (layout_checks ed b)) (Fits ed b)
