-- The names of a file (FORMAT, "String tables", "Questions"), and the two special ones.
use Rattle.std.specs.Prelude.{ℕ, ◌-◌, ◌≤◌, ◌≡◌, ◌⊎◌, List, [], ◌∷◌}
use Rattle.layout.specs.Table.{count}
use Rattle.layout.specs.Layout.{names}
use Rattle.layout.specs.declared.Edition.{Edition}
use Rattle.strings.specs.Texts.{listed_text}

-- The name count: the address count of names less one.
unfoldable pub name_count : Edition → List ℕ → ℕ
name_count ed b = count (names ed b) - 1

-- The text that name index i picks from the names address list, counted from 1.
unfoldable pub name_text : Edition → List ℕ → ℕ → List ℕ
name_text ed b i = listed_text (names ed b) i

-- `__root__` and `__value__`.
unfoldable pub root_name : List ℕ
root_name = 0x5f ∷ 0x5f ∷ 0x72 ∷ 0x6f ∷ 0x6f ∷ 0x74 ∷ 0x5f ∷ 0x5f ∷ []

unfoldable pub value_name : List ℕ
value_name = 0x5f ∷ 0x5f ∷ 0x76 ∷ 0x61 ∷ 0x6c ∷ 0x75 ∷ 0x65 ∷ 0x5f ∷ 0x5f ∷ []

-- Index i is that of a name, whose text is x.
pub record Bears (ed : Edition) (b : List ℕ) (i : ℕ) (x : List ℕ) : Type 0 where
  pub low : 1 ≤ i
  pub high : i ≤ name_count ed b
  pub text : name_text ed b i ≡ x

-- 14: `__root__` and `__value__` are the two highest name indices, either way round.
pub record Special (ed : Edition) (b : List ℕ) : Type 0 where
  pub two : 2 ≤ name_count ed b
  pub highest :
      ((name_text ed b (name_count ed b) ≡ root_name) × (name_text ed b (name_count ed b - 1) ≡ value_name))
      ⊎ ((name_text ed b (name_count ed b) ≡ value_name) × (name_text ed b (name_count ed b - 1) ≡ root_name))
