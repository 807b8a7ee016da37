-- What the code holds when it comes to the nodes: the places, the names, and the lent samples and starts.
use Rattle.std.specs.Prelude.{ℕ, ◌≡◌, List}
use Rattle.verdict.specs.Checks.{first_fault}
use Rattle.verdict.specs.Verdict.{Accepted}
use Rattle.region.specs.inner.Samples.{Starts}
use Rattle.layout.specs.Edition.{attribute_size, node_size}
use Rattle.layout.specs.Layout.{LaidOut, attributes_at, nodes_at, values}
use Rattle.layout.specs.inner.View.{PlacesFit}
use Rattle.layout.specs.declared.Places.{Places}
use Rattle.layout.specs.declared.Edition.{Edition}
use Rattle.strings.specs.Order.{string_checks}
use Rattle.strings.specs.inner.Held.{Held, held_table}
use Rattle.strings.specs.declared.Strings.{Strings}
use Rattle.keys.specs.inner.Known.{Known}
use Rattle.keys.specs.declared.Names.{Names}

-- The values table as the strings layer holds it.
unfoldable pub value_strings : Places → Strings
value_strings p = record { chars = p.value_chars; list = p.value_list }

-- The file is laid out, its values table passed 7 to 13, and its special names are known.
pub record Ready (ed : Edition) (b : List ℕ) (p : Places) (n : Names) (attribute_starts node_starts value_starts value_buckets : List ℕ) : Type 0 where
  pub laid : LaidOut ed b
  pub placed : PlacesFit ed b p
  pub known : Known ed b n
  pub attributes : Starts (attribute_size ed) b (attributes_at b) p.attributes.shift attribute_starts
  pub nodes : Starts (node_size ed) b (nodes_at ed b) p.nodes.shift node_starts
  pub strings : Held b (value_strings p) value_starts value_buckets
  pub table : held_table b (value_strings p) value_buckets ≡ values ed b
  pub accepted : first_fault (string_checks (values ed b)) ≡ Accepted
