-- What the code holds of the names once 14 has passed.
use Rattle.std.specs.Prelude.{ℕ, ◌≡◌, List, Result}
use Rattle.verdict.specs.Checks.{first_fault}
use Rattle.verdict.specs.inner.Gives.{Gives}
use Rattle.verdict.specs.declared.Refusal.{Refusal}
use Rattle.layout.specs.declared.Edition.{Edition}
use Rattle.keys.specs.Names.{name_count, root_name, value_name, Bears}
use Rattle.keys.specs.Order.{special_checks}
use Rattle.keys.specs.declared.Names.{Names}

-- The name count, and the indices of the two special names; no other index bears their texts.
pub record Known (ed : Edition) (b : List ℕ) (n : Names) : Type 0 where
  pub count : n.count ≡ name_count ed b
  pub root : Bears ed b n.root root_name
  pub value : Bears ed b n.value value_name
  pub only_root : (i : ℕ) → Bears ed b i root_name → i ≡ n.root
  pub only_value : (i : ℕ) → Bears ed b i value_name → i ≡ n.value

-- What the check of 14 answers: the refusal, or the names.
abbrev pub SpecialsFound : Edition → List ℕ → Result Names Refusal → Type 0
SpecialsFound ed b = Gives (first_fault (special_checks ed b)) (Known ed b)
