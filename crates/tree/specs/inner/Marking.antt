-- What the code holds for the checks of the tree, and what it answers while it marks nodes.
use Rattle.std.specs.Prelude.{ℕ, ◌+◌, ◌<◌, ◌≡◌, Bool, true, false, List, [], ◌∷◌, get_or, replicate, Option, Some, None}
use Rattle.laws.specs.inner.Lists.{splice}
use Rattle.verdict.specs.Checks.{first_fault}
use Rattle.verdict.specs.inner.Tells.{Tells}
use Rattle.verdict.specs.Verdict.{Accepted}
use Rattle.region.specs.Region.{Reaches, number_of}
use Rattle.region.specs.inner.Samples.{Mapped, Starts}
use Rattle.region.specs.declared.Region.{Region}
use Rattle.layout.specs.Edition.{node_size}
use Rattle.layout.specs.Layout.{LaidOut, nodes_at}
use Rattle.layout.specs.declared.Edition.{Edition}
use Rattle.nodes.specs.Node.{child_segment, child_element, child_count}
use Rattle.nodes.specs.Order.{all_node_checks}
use Rattle.tree.specs.File.{node_of}

-- None of the n nodes from number i on is the root or is marked.
pub record Free (ws : List ℕ) (i n : ℕ) : Type 0 where
  pub rootless : (j : ℕ) → j < n → i + j ≡ 0 → ⊥
  pub unmarked : (j : ℕ) → j < n → get_or ws (i + j) 0 ≡ 0

-- The child range of the node at p resolves.
abbrev pub Reached : Edition → List ℕ → ℕ → Type 0
Reached ed b p = Reaches (node_size ed) b (nodes_at ed b) (child_segment ed b p) (child_element ed b p) (child_count b p)

-- The number in the workspace of the first child of the node at p.
unfoldable pub first_number : Edition → List ℕ → ℕ → ℕ
first_number ed b p = number_of (node_size ed) b (nodes_at ed b) (child_segment ed b p) (child_element ed b p)

-- The child range of the node at p was free and is marked now; or it was not, and nothing changed.
pub record MarkedOne (ed : Edition) (b : List ℕ) (p : ℕ) (ws : List ℕ) (r : Bool) (ws' : List ℕ) : Type 0 where
  pub free : Tells (Free ws (first_number ed b p) (child_count b p)) r
  pub set : r ≡ true → ws' ≡ splice ws (first_number ed b p) (replicate (child_count b p) 1)
  pub kept : r ≡ false → ws' ≡ ws

-- The place of the first of some nodes.
unfoldable pub first_place : Edition → List ℕ → List ℕ → Option ℕ
first_place ed b [] = None
first_place ed b (a ∷ l) = Some (node_of ed b a)

-- A file that is laid out and passed 16 to 19 and 23, and the region of its nodes.
pub record TreeReady (ed : Edition) (b : List ℕ) (r : Region) (segments : List ℕ) : Type 0 where
  pub laid : LaidOut ed b
  pub nodes : Mapped (node_size ed) b (nodes_at ed b) r
  pub sampled : Starts (node_size ed) b (nodes_at ed b) r.shift segments
  pub accepted : first_fault (all_node_checks ed b) ≡ Accepted
