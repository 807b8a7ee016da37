use native.Mathlib.Omega.{arith}
use mathlib.Core.Path.{sym, ◌∙◌}
use Rattle.verdict.proofs.Laws.{pass, stop}
use Rattle.layout.specs.Header.{header_checks}
use Rattle.layout.proofs.front.header.Goals as goal

pub returns-then-b-lt4 : goal.returns-then-b-lt4
unfolding header_checks
returns-then-b-lt4 c = sym (stop _ _ _ _ _ (λ h. omega arith))

pub returns-then-u32_at-ne6 : goal.returns-then-u32_at-ne6
unfolding header_checks
returns-then-u32_at-ne6 c = sym (pass _ _ _ _ _ (omega arith) ∙ stop _ _ _ _ _ (λ h. omega arith))

pub returns-then-b-lt12 : goal.returns-then-b-lt12
unfolding header_checks
returns-then-b-lt12 c = sym (pass _ _ _ _ _ (omega arith) ∙ pass _ _ _ _ _ (omega arith) ∙ stop _ _ _ _ _ (λ h. omega arith))

pub returns-then-b-lt16 : goal.returns-then-b-lt16
unfolding header_checks
returns-then-b-lt16 c = sym (pass _ _ _ _ _ (omega arith) ∙ pass _ _ _ _ _ (omega arith) ∙ pass _ _ _ _ _ (omega arith) ∙ stop _ _ _ _ _ (λ h. omega arith))

pub returns : goal.returns
unfolding header_checks
returns c = sym (pass _ _ _ _ _ (omega arith) ∙ pass _ _ _ _ _ (omega arith) ∙ pass _ _ _ _ _ (omega arith) ∙ pass _ _ _ _ _ (omega arith) ∙ sym c.zero_words.ensures)
