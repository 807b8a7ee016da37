-- Refusals 14 and 15 find nothing exactly when their rules hold. Assumes nothing.
use Prim.Native.Nat.{ℕ, ◌<◌}
use native.Mathlib.Omega.{arith}
use mathlib.Core.Path.{◌≡◌, ◌∙◌}
use mathlib.Core.Logic.{◌↔◌}
use mathlib.Core.List.{List}
use Rattle.verdict.specs.Checks.{first_fault}
use Rattle.verdict.specs.Verdict.{Accepted}
use Rattle.verdict.proofs.Laws.{pass, clean_inv, fault_none, each_inv, each_clean}
use Rattle.layout.specs.Header.{key_count}
use Rattle.layout.specs.declared.Edition.{Edition}
use Rattle.keys.specs.Names.{Special}
use Rattle.keys.specs.Keys.{KeyRule}
use Rattle.keys.specs.Order.{special_checks, key_rule_checks, all_key_checks}

module _ (ed : Edition) (b : List ℕ) where
  pub special_iff : first_fault (special_checks ed b) ≡ Accepted ↔ Special ed b
  unfolding special_checks
  special_iff = (λ e. (clean_inv _ _ _ _ _ e).0, λ r. pass _ _ _ _ _ r ∙ fault_none)

  pub keys_iff : first_fault (all_key_checks ed b) ≡ Accepted ↔ ((k : ℕ) → k < key_count b → KeyRule ed b k)
  unfolding all_key_checks key_rule_checks
  keys_iff = (
    λ e k h. (clean_inv _ _ _ _ _ (each_inv _ _ _ e k (omega arith) (omega arith))).0,
    λ r. each_clean _ _ _ (λ k l h. pass _ _ _ _ _ (r k (omega arith)) ∙ fault_none),
  )
