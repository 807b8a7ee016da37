-- What the code holds when it writes the outline of an accepted file: samples of segment starts, and what nodes, attributes and addresses passed.
use Rattle.std.specs.Prelude.{ℕ, ◌+◌, ◌≤◌, ◌<◌, List, length}
use Rattle.region.specs.Region.{Resolves}
use Rattle.region.specs.inner.Samples.{Mapped, Starts}
use Rattle.region.specs.declared.Region.{Region}
use Rattle.layout.specs.Edition.{attribute_size, node_size}
use Rattle.layout.specs.Layout.{values, names}
use Rattle.layout.specs.declared.Places.{Places}
use Rattle.layout.specs.declared.Edition.{Edition}
use Rattle.keys.specs.Names.{name_count}
use Rattle.nodes.specs.Node.{Live, node_name, attribute_count, attribute_at}
use Rattle.nodes.specs.Attribute.{attribute_name, Typed}
use Rattle.nodes.specs.Rules.{AttributesReach, TextRight}

-- Samples of the values' characters, and of the names'.
abbrev pub ValueStarts : Edition → List ℕ → Places → List ℕ → Type 0
ValueStarts ed b p xs = Starts 2 b (values ed b).at p.value_chars.shift xs

abbrev pub NameStarts : Edition → List ℕ → Places → List ℕ → Type 0
NameStarts ed b p xs = Starts 2 b (names ed b).at p.name_chars.shift xs

-- The attribute at q lies in the file and passed 18 and 19.
pub record AttributeReady (ed : Edition) (b : List ℕ) (q : ℕ) : Type 0 where
  pub fits : q + attribute_size ed ≤ length b
  pub low : 1 ≤ attribute_name b q
  pub high : attribute_name b q ≤ name_count ed b
  pub typed : Typed b q
  pub text : TextRight ed b q

-- The node at x lies in the file, is live, and passed 16 to 19.
pub record NodeReady (ed : Edition) (b : List ℕ) (x : ℕ) : Type 0 where
  pub fits : x + node_size ed ≤ length b
  pub live : Live b x
  pub name : node_name b x ≤ name_count ed b
  pub attributes : AttributesReach ed b x
  pub attribute : (i : ℕ) → i < attribute_count b x → AttributeReady ed b (attribute_at ed b x i)

-- The address seg:el of the characters r resolves, and xs are their samples.
pub record TextHeld (b : List ℕ) (r : Region) (xs : List ℕ) (seg el : ℕ) : Type 0 where
  pub mapped : Mapped 2 b r.at r
  pub sampled : Starts 2 b r.at r.shift xs
  pub resolved : Resolves 2 b r.at seg el
