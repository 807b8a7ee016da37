-- The names of a path as name indices: what the code looks up once, before it goes down the tree.
use Rattle.std.specs.Prelude.{ℕ, ◌+◌, ◌*◌, ◌%◌, ◌≤◌, ◌<◌, ◌≡◌, cond, ◌⊎◌, List, [], ◌∷◌, eqb, length, get_or}
use Rattle.le.specs.Le.{u16_at}
use Rattle.layout.specs.declared.Edition.{Edition}
use Rattle.keys.specs.Names.{Bears}
use Rattle.tree.specs.Chain.{Tree, ranged, most_levels, deepest_level}
use Rattle.path.specs.Names.{names_of, name_at}
use Rattle.path.specs.declared.names.Wanted.{Wanted}

-- The name that starts at an even offset of a path ends at e, where its 0 stands.
pub record NameEnd (path : List ℕ) (at e : ℕ) : Type 0 where
  pub from : at ≤ e
  pub within : e + 2 ≤ length path
  pub even : e % 2 ≡ 0
  pub zero_there : u16_at path e ≡ 0
  pub live : (i : ℕ) → at + 2 * i < e → u16_at path (at + 2 * i) ≡ 0 → ⊥

-- No node can bear the names: the first `count` are names of the file, and then comes one more than a chain can bear, or one that is no name of
-- the file.
pub record Unborne (ed : Edition) (b path : List ℕ) : Type 0 where
  pub count : ℕ
  pub few : count ≤ deepest_level
  pub index : (i : ℕ) → i < count → (k : ℕ) × Bears ed b k (name_at (names_of path) i)
  pub none : ((count ≡ deepest_level) × (deepest_level < length (names_of path)))
      ⊎ ((count < length (names_of path)) × ((k : ℕ) → Bears ed b k (name_at (names_of path) count) → ⊥))

-- The names have these indices, and the others' places hold 0.
pub record WantedIs (ed : Edition) (b path : List ℕ) (w : Wanted) : Type 0 where
  pub long : length w.indices ≡ most_levels
  pub few : w.count ≤ deepest_level
  pub many : w.count ≡ length (names_of path)
  pub index : (i : ℕ) → i < w.count → Bears ed b (get_or w.indices i 0) (name_at (names_of path) i)
  pub rest : (i : ℕ) → w.count ≤ i → get_or w.indices i 0 ≡ 0

-- The nodes below node a that name indices lead to, in document order.
unfoldable pub matches_at : Tree → List ℕ → ℕ → List ℕ
matches_at t [] a = a ∷ []
matches_at t (i ∷ is) a = ranged (λ c. cond (eqb (t.name c) i) (matches_at t is c) []) (t.first a) (t.count a)
