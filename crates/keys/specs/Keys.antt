-- Keys (FORMAT, "Keys"; refusal 15): four names each.
use Rattle.std.specs.Prelude.{ℕ, ◌+◌, ◌*◌, ◌≤◌, ◌<◌, ◌≡◌, List}
use Rattle.le.specs.Le.{u16_at}
use Rattle.layout.specs.Header.{key_at}
use Rattle.layout.specs.declared.Edition.{Edition}
use Rattle.keys.specs.Names.{name_count, value_name, Bears}

-- Name f of key k.
unfoldable pub key_name : List ℕ → ℕ → ℕ → ℕ
key_name b k f = u16_at b (key_at k + 2 * f)

-- A name of a key may be 0 or a name index, but not that of `__value__`; those of key 0 are 0.
pub record KeyNameRule (ed : Edition) (b : List ℕ) (k f : ℕ) : Type 0 where
  pub zero-key : k ≡ 0 → key_name b k f ≡ 0
  pub high : key_name b k f ≤ name_count ed b
  pub not-value : Bears ed b (key_name b k f) value_name → ⊥

-- 15: so are all four.
abbrev pub KeyRule : Edition → List ℕ → ℕ → Type 0
KeyRule ed b k = (f : ℕ) → f < 4 → KeyNameRule ed b k f
