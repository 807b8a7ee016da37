use native.Mathlib.Omega.{arith}
use mathlib.Core.Path.{◌∙◌}
use Rattle.verdict.proofs.Laws.{pass, stop, fault_none}
use Rattle.layout.specs.declared.Edition.TheVariants.{Bits64}
use Rattle.layout.proofs.Parts.{footer-told}
use Rattle.layout.proofs.whole.footer.Goals as goal

pub returns-then-b-p-lt4 : goal.returns-then-b-p-lt4
returns-then-b-p-lt4 c = footer-told Bits64 _ _ c.requires.0 (stop _ _ _ _ _ (λ h. omega arith))

pub returns-then-u32_at-ne0 : goal.returns-then-u32_at-ne0
returns-then-u32_at-ne0 c = footer-told Bits64 _ _ c.requires.0 (pass _ _ _ _ _ (omega arith) ∙ stop _ _ _ _ _ (λ h. omega arith))

pub returns-then-b-p-gt4 : goal.returns-then-b-p-gt4
returns-then-b-p-gt4 c = footer-told Bits64 _ _ c.requires.0 (pass _ _ _ _ _ (omega arith) ∙ pass _ _ _ _ _ (omega arith) ∙ stop _ _ _ _ _ (λ h. omega arith))

pub returns : goal.returns
returns c = footer-told Bits64 _ _ c.requires.0 (pass _ _ _ _ _ (omega arith) ∙ pass _ _ _ _ _ (omega arith) ∙ pass _ _ _ _ _ (omega arith) ∙ fault_none)
