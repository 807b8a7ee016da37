use Prim.Native.Nat.{ℕ, ◌+◌, ◌*◌}
use native.Mathlib.Omega.{arith}
use mathlib.Core.Path.{ap, ◌∙◌}
use Rattle.verdict.proofs.Laws.{pass, stop, fault_none}
use Rattle.verdict.proofs.Gives.{gives_ok, gives_err}
use Rattle.layout.proofs.Parts.{bucket-told, next_bucket}
use Rattle.layout.proofs.tables.check_bucket.Goals as goal

pub returns-then-b-p-lt4 : goal.returns-then-b-p-lt4
returns-then-b-p-lt4 c = gives_err (bucket-told _ _ _ c.requires.0 (stop _ _ _ _ _ (λ h. omega arith)))

pub returns-then-b-e : goal.returns-then-b-e
returns-then-b-e c = gives_err (bucket-told _ _ _ c.requires.0 (pass _ _ _ _ _ (omega arith) ∙ stop _ _ _ _ _ (λ h. omega arith)))

pub returns : goal.returns
returns c = gives_ok
    (bucket-told _ _ _ c.requires.0 (pass _ _ _ _ _ (omega arith) ∙ pass _ _ _ _ _ (omega arith) ∙ fault_none))
    (ap (λ (x : ℕ). c.args.p + 4 + 16 * x) c.u32_at-count.ensures.0 ∙ next_bucket _ _ _ c.requires.0)
