-- Request T-10 moved refusal 19 and nothing else of the nodes' checks. Assumes nothing.
use Prim.Native.Nat.{ℕ, ◌<◌}
use native.Mathlib.Omega.{arith}
use native.Mathlib.Decide.{ℕ_discrete}
use mathlib.Core.Path.{◌≡◌, sym, ◌∙◌}
use mathlib.Core.Logic.{inl, inr, by_cases}
use mathlib.Core.List.{List, [], ◌∷◌}
use Rattle.verdict.proofs.Laws.{Clean, pass, stop, clean_inv, append_inv, each_inv}
use Rattle.verdict.proofs.Same.{SameOr, same-all, same-append, same-each}
use Rattle.words.specs.Words.{type_of}
use Rattle.region.specs.Region.{count_of, used_of, Resolves}
use Rattle.layout.specs.Edition.{node_size}
use Rattle.layout.specs.Layout.{nodes_at}
use Rattle.layout.specs.declared.Edition.{Edition}
use Rattle.nodes.specs.Node.{attribute_count, node_at, attribute_at}
use Rattle.nodes.specs.Attribute.{type_word}
use Rattle.nodes.specs.Rules.{TextRight}
use Rattle.nodes.specs.Decisions.{attribute_rule?, text_right?}
use Rattle.nodes.specs.Order.{attribute_checks, node_attribute_checks, attribute_range_checks, node_checks, segment_node_checks, all_node_checks}
use Rattle.nodes.specs.OldFold.{FoldsDiffer, TextRightBefore, text_right_before?, attribute_checks_before, node_checks_before, all_node_checks_before}

module _ (ed : Edition) (b : List ℕ) (q : ℕ) where
  -- a rule that is broken is one about a text
  is_text : {P : Type 0} → ((type_of (type_word b q) ≡ 3 → P) → ⊥) → type_of (type_word b q) ≡ 3
  is_text f = by_cases (ℕ_discrete (type_of (type_word b q)) 3) (λ e. e) (λ n. absurd (f (λ e. absurd (n e))))

  -- where one of the two rules holds and the other does not, the folds differ
  broken_now : (TextRight ed b q → ⊥) → TextRightBefore ed b q → FoldsDiffer ed b q
  broken_now n s = record {
    text = is_text n;
    apart = λ e. n (λ t. record { entry = (s t).entry; hash = (s t).hash ∙ sym e });
  }

  broken-before : TextRight ed b q → (TextRightBefore ed b q → ⊥) → FoldsDiffer ed b q
  broken-before r m = record {
    text = is_text m;
    apart = λ e. m (λ t. record { entry = (r t).entry; hash = (r t).hash ∙ e });
  }

  -- where they differ, not both hold
  pub not_both : FoldsDiffer ed b q → TextRight ed b q → TextRightBefore ed b q → ⊥
  not_both d r s = d.apart (sym (r d.text).hash ∙ (s d.text).hash)

module _ (ed : Edition) (b : List ℕ) {P Q : ℕ → ℕ → Type 0} where
  pub attribute-moved : (p i : ℕ) → (FoldsDiffer ed b (attribute_at ed b p i) → P 19 (attribute_at ed b p i))
      → (FoldsDiffer ed b (attribute_at ed b p i) → Q 19 (attribute_at ed b p i)) → SameOr P Q (attribute_checks ed b p i) (attribute_checks_before ed b p i)
  unfolding attribute_checks attribute_checks_before
  attribute-moved p i now before =
      by_cases (attribute_rule? ed b p i)
      (λ a. by_cases (text_right? ed b (attribute_at ed b p i))
      (λ r. by_cases (text_right_before? ed b (attribute_at ed b p i))
      (λ s. inl (pass _ _ _ _ _ a ∙ pass _ _ _ _ _ r ∙ sym (pass _ _ _ _ _ a ∙ pass _ _ _ _ _ s)))
      (λ m. inr (inr (19, attribute_at ed b p i, pass _ _ _ _ _ a ∙ stop _ _ _ _ _ m, before (broken-before ed b _ r m)))))
      (λ n. by_cases (text_right_before? ed b (attribute_at ed b p i))
      (λ s. inr (inl (19, attribute_at ed b p i, pass _ _ _ _ _ a ∙ stop _ _ _ _ _ n, now (broken_now ed b _ n s))))
      (λ m. inl (pass _ _ _ _ _ a ∙ stop _ _ _ _ _ n ∙ sym (pass _ _ _ _ _ a ∙ stop _ _ _ _ _ m)))))
      (λ n. inl (stop _ _ _ _ _ n ∙ sym (stop _ _ _ _ _ n)))

  node-moved : (seg el : ℕ) → ((i : ℕ) → i < attribute_count b (node_at ed b seg el)
      → SameOr P Q (attribute_checks ed b (node_at ed b seg el) i) (attribute_checks_before ed b (node_at ed b seg el) i))
      → SameOr P Q (node_checks ed b seg el) (node_checks_before ed b seg el)
  unfolding node_checks attribute_range_checks node_attribute_checks node_checks_before
  node-moved seg el k =
      same-append (_ ∷ _ ∷ []) (_ ∷ _ ∷ []) _ _ (same-all _)
      (same-append _ _ _ _ (same-each _ _ _ 0 (λ i l m. k i (omega arith))) (same-all _))

  pub nodes-moved : ((seg el i : ℕ) → Resolves (node_size ed) b (nodes_at ed b) seg el → i < attribute_count b (node_at ed b seg el)
      → SameOr P Q (attribute_checks ed b (node_at ed b seg el) i) (attribute_checks_before ed b (node_at ed b seg el) i))
      → SameOr P Q (all_node_checks ed b) (all_node_checks_before ed b)
  unfolding all_node_checks segment_node_checks all_node_checks_before
  nodes-moved h =
      same-append (_ ∷ []) (_ ∷ []) _ _ (same-all _)
      (same-each _ _ (count_of b (nodes_at ed b)) 0 (λ seg l m. same-each _ _ (used_of (node_size ed) b (nodes_at ed b) seg) 0 (λ el g d.
      node-moved seg el (λ i c. h seg el i (record { seg_in = omega arith; el_in = omega arith }) c))))

-- where no check of before fails, the old rule holds at every attribute
module _ (ed : Edition) (b : List ℕ) (seg el i : ℕ) where
  pub right-before : Clean (all_node_checks_before ed b) → Resolves (node_size ed) b (nodes_at ed b) seg el → i < attribute_count b (node_at ed b seg el)
      → TextRightBefore ed b (attribute_at ed b (node_at ed b seg el) i)
  unfolding all_node_checks_before node_checks_before attribute_checks_before
  right-before e u l =
      let s = each_inv _ _ 0 (clean_inv _ _ _ _ _ e).1 seg (omega arith) (omega (arith, u.seg_in)) in
      let n = each_inv _ _ 0 s el (omega arith) (omega (arith, u.el_in)) in
      let a = (append_inv _ _ (clean_inv _ _ _ _ _ (clean_inv _ _ _ _ _ n).1).1).0 in
      let c = each_inv _ _ 0 a i (omega arith) (omega arith) in
      (clean_inv _ _ _ _ _ (clean_inv _ _ _ _ _ c).1).0
