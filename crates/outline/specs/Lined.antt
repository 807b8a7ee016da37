-- The outline by chains (FORMAT, "Outline", "Chains and document order"): one line for each chain from the root, in document order.
-- (proofs/Listed.antt: this is what outline_of gives for every accepted file.)
use Rattle.std.specs.Prelude.{ℕ, ◌≡◌, length}
use mathlib.Core.List.{List, [], ◌∷◌, flat_map, Memᴰ}
use Rattle.layout.specs.declared.Edition.{Edition}
use Rattle.tree.specs.Chain.{Tree, child, Chain, Before}
use Rattle.tree.specs.File.{node_of, tree_of}
use Rattle.outline.specs.Outline.{line, outline_of}

-- The node where the places ps lead from node a.
unfoldable pub leads : Tree → ℕ → List ℕ → ℕ
leads t a [] = a
leads t a (j ∷ ps) = leads t (child t a j) ps

-- Of any two chains of a list the earlier is before the later in document order.
unfoldable pub Rising : List (List ℕ) → Type 0
Rising [] = Unit
Rising (ps ∷ l) = ((qs : List ℕ) → Memᴰ qs l → Before ps qs) × Rising l

-- l lists the chains from the root, each chain and nothing else, in document order, so each once; and the outline is the line of
-- each, of the node where it leads, at a level for each of its places.
pub record Lined (ed : Edition) (b : List ℕ) (l : List (List ℕ)) : Type 0 where
  pub sound : (ps : List ℕ) → Memᴰ ps l → Chain (tree_of ed b) ps 0 (leads (tree_of ed b) 0 ps)
  pub complete : (ps : List ℕ) (e : ℕ) → Chain (tree_of ed b) ps 0 e → Memᴰ ps l × (e ≡ leads (tree_of ed b) 0 ps)
  pub ordered : Rising l
  pub lines : outline_of ed b ≡ flat_map (λ ps. line ed b (length ps) (node_of ed b (leads (tree_of ed b) 0 ps))) l
