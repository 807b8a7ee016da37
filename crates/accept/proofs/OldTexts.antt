-- Request T-01 moved texts without a stored 0, and nothing else. Assumes nothing.
use Prim.Native.Nat.{ℕ}
use mathlib.Core.Path.{ap, ◌∙◌}
use mathlib.Core.Logic.{inl, inr, ⊎_elim}
use mathlib.Core.List.{List, ◌++◌}
use Rattle.verdict.specs.Checks.{Check}
use Rattle.verdict.specs.Verdict.{Refused}
use Rattle.verdict.proofs.Same.{SameOr, same-all, same-append, same_is}
use Rattle.layout.specs.Layout.{layout_checks, values, names}
use Rattle.layout.specs.declared.Edition.{Edition}
use Rattle.strings.specs.Order.{string_checks}
use Rattle.strings.specs.OldTexts.{string_checks_before}
use Rattle.strings.proofs.OldTexts.{text-before, strings-same, strings_or_8}
use Rattle.accept.specs.Verdict.{accept_checks, verdict_of}
use Rattle.accept.specs.OldTexts.{verdict_old_texts, TextsMoved}

-- the groups behind the string tables stayed
groups : (ed : Edition) {P Q : ℕ → ℕ → Type 0} (b : List ℕ) (rest : List Check) → SameOr P Q (string_checks (values ed b)) (string_checks_before (values ed b))
    → SameOr P Q (string_checks (names ed b)) (string_checks_before (names ed b))
    → SameOr P Q (layout_checks ed b ++ (string_checks (values ed b) ++ (string_checks (names ed b) ++ rest)))
    (layout_checks ed b ++ (string_checks_before (values ed b) ++ (string_checks_before (names ed b) ++ rest)))
groups ed b rest v n = same-append _ _ _ _ (same-all (layout_checks ed b)) (same-append _ _ _ _ v (same-append _ _ _ _ n (same-all rest)))

pub texts-moved : (ed : Edition) (b : List ℕ) → TextsMoved ed b
unfolding verdict_of accept_checks verdict_old_texts
texts-moved ed b = record {
  text = λ t k j m l e. text-before t k j m l e;
  same = λ v n room. same_is _ _ (groups ed b _ (strings-same (values ed b) v) (strings-same (names ed b) n));
  moved = λ room. ⊎_elim (λ e. inl e)
      (λ w. ⊎_elim (λ r. absurd r.3) (λ r. inr (r.1, r.2 ∙ ap (λ (n : ℕ). Refused n r.1) r.3)) w)
      (groups ed b _ (strings_or_8 (values ed b)) (strings_or_8 (names ed b)));
}
