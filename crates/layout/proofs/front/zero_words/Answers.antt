use native.Mathlib.Omega.{arith}
use mathlib.Core.Path.{refl, sym, ◌∙◌}
use Rattle.verdict.proofs.Laws.{pass, stop, fault_none}
use Rattle.verdict.proofs.Scans.{each_more, each_stop, each_end}
use Rattle.layout.proofs.Parts.{zero-told}
use Rattle.layout.proofs.front.zero_words.Goals as goal

pub returns-then-b-p-lt4 : goal.returns-then-b-p-lt4
returns-then-b-p-lt4 c =
    sym (c.loop-i.invariant.rest ∙ each_stop _ _ _ (omega arith) (zero-told _ _ _ refl (stop _ _ _ _ _ (λ h. omega arith))))

pub returns-then-u32_at-ne0 : goal.returns-then-u32_at-ne0
returns-then-u32_at-ne0 c =
    sym (c.loop-i.invariant.rest ∙ each_stop _ _ _ (omega arith) (zero-told _ _ _ refl (pass _ _ _ _ _ (omega arith) ∙ stop _ _ _ _ _ (λ h. omega arith))))

pub loop-i-preserved : goal.loop-i-preserved
loop-i-preserved c = record {
  inside = omega arith;
  rest = c.loop-i.invariant.rest ∙ each_more _ _ _ _ (omega arith) (zero-told _ _ _ refl (pass _ _ _ _ _ (omega arith) ∙ pass _ _ _ _ _ (omega arith) ∙ fault_none));
}

pub returns : goal.returns
returns c = sym (c.loop-i.invariant.rest ∙ each_end _ _ _ (omega arith))
