-- Refusal 24 of a path: what it finds, and what it leaves of a path that passes. Assumes nothing.
use mathlib.Core.Path.{◌≡◌, ap, ◌∙◌}
use mathlib.Core.Logic.{⊎_elim}
use mathlib.Core.List.{List}
use Prim.Native.Nat.{ℕ, ◌+◌, ◌-◌, ◌*◌, ◌/◌, ◌%◌, ◌<◌}
use native.Mathlib.Omega.{arith}
use lib.ListN.{length}
use Rattle.verdict.specs.Checks.{first_fault}
use Rattle.verdict.specs.Verdict.{Refused}
use Rattle.verdict.proofs.Laws.{Clean, pass, stop, clean_inv, fault_none}
use Rattle.le.specs.Le.{u16_at}
use Rattle.path.specs.Names.{Closed, path_checks}

module _ (path : List ℕ) where
  pub path_odd : (length path % 2 ≡ 0 → ⊥) → first_fault (path_checks path) ≡ Refused 24 (length path)
  unfolding path_checks
  path_odd f = stop _ _ _ _ _ f

  pub path_open : length path % 2 ≡ 0 → (length path ≡ 0 → ⊥) → (u16_at path (length path - 2) ≡ 0 → ⊥)
      → first_fault (path_checks path) ≡ Refused 24 (length path)
  unfolding path_checks
  path_open h f g = pass _ _ _ _ _ h ∙ stop _ _ _ _ _ (⊎_elim f g)

  pub path_formed : length path % 2 ≡ 0 → Closed path → Clean (path_checks path)
  unfolding path_checks
  path_formed h g = pass _ _ _ _ _ h ∙ pass _ _ _ _ _ g ∙ fault_none

  pub formed_inv : Clean (path_checks path) → (length path % 2 ≡ 0) × Closed path
  unfolding path_checks
  formed_inv e = let x = clean_inv _ _ _ _ _ e in (x.0, (clean_inv _ _ _ _ _ x.1).0)

-- the k characters from an offset on are not 0
abbrev pub Live : List ℕ → ℕ → ℕ → Type 0
Live path at k = (i : ℕ) → i < k → u16_at path (at + 2 * i) ≡ 0 → ⊥

-- a name starts there: the last character is 0
module _ (path : List ℕ) (at : ℕ) (ok : Clean (path_checks path)) (even : at % 2 ≡ 0) (l : at < length path) where
  pub some_end : Live path at ((length path - at) / 2) → ⊥
  some_end w =
      let f = formed_inv path ok in
      ⊎_elim
      (λ z. omega arith)
      (λ z.
      let e : at + 2 * ((length path - at) / 2 - 1) ≡ length path - 2 = omega (arith, f.0) in
      w _ (omega (arith, f.0)) (ap (u16_at path) e ∙ z))
      f.1
