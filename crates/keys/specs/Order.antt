-- Refusals 14 and 15 (FORMAT, "Refusals").
use Rattle.std.specs.Prelude.{ℕ, List, [], ◌∷◌}
use Rattle.verdict.specs.Checks.{Check, check, each}
use Rattle.layout.specs.Header.{key_at, key_count}
use Rattle.layout.specs.Table.{list_at}
use Rattle.layout.specs.Layout.{names}
use Rattle.layout.specs.declared.Edition.{Edition}
use Rattle.keys.specs.Names.{Special}
use Rattle.keys.specs.Keys.{KeyRule}
use Rattle.keys.specs.Decisions.{special?, key_rule?}

-- 14; the place is the names address count.
unfoldable pub special_checks : Edition → List ℕ → List Check
special_checks ed b = check 14 (list_at (names ed b)) (Special ed b) (special? ed b) ∷ []

-- 15 of key k; the place is the key.
unfoldable pub key_rule_checks : Edition → List ℕ → ℕ → List Check
key_rule_checks ed b k = check 15 (key_at k) (KeyRule ed b k) (key_rule? ed b k) ∷ []

-- 15 of every key.
unfoldable pub all_key_checks : Edition → List ℕ → List Check
all_key_checks ed b = each (key_rule_checks ed b) (key_count b) 0
