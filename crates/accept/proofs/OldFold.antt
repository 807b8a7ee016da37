-- Request T-10 moved the value hash of texts with 0151, and nothing else. Assumes nothing.
use Prim.Native.Nat.{ℕ, ◌<◌}
use mathlib.Core.Path.{◌≡◌, refl, ap, sym, ◌∙◌}
use mathlib.Core.Logic.{inl, inr, ⊎_elim}
use mathlib.Core.List.{List, [], ◌++◌, append_assoc}
use Rattle.verdict.specs.Checks.{Check, first_fault}
use Rattle.verdict.specs.Verdict.{Refused}
use Rattle.verdict.proofs.Laws.{Clean, never, append_inv, fault_keep}
use Rattle.verdict.proofs.Broken.{clean_iff}
use Rattle.verdict.proofs.Same.{SameOr, Never, same-all, same-append, same_is}
use Rattle.layout.specs.Layout.{layout_checks, values, names}
use Rattle.layout.specs.declared.Edition.{Edition}
use Rattle.strings.specs.Order.{string_checks}
use Rattle.keys.specs.Order.{special_checks, all_key_checks}
use Rattle.nodes.specs.Node.{attribute_count, node_at, attribute_at}
use Rattle.nodes.specs.Order.{all_node_checks}
use Rattle.nodes.specs.OldFold.{FoldsDiffer, all_node_checks_before}
use Rattle.nodes.proofs.Accepted.{nodes_iff}
use Rattle.nodes.proofs.OldFold.{not_both, attribute-moved, nodes-moved, right-before}
use Rattle.tree.specs.Outcome.{tree_checks}
use Rattle.accept.specs.Verdict.{accept_checks, verdict_of}
use Rattle.accept.specs.Refusals.{UsedNode}
use Rattle.accept.specs.OldFold.{checks_with, verdict_old_fold, BuiltBefore, LiveDiffer, AtDiffering, FoldMoved}

module _ (ed : Edition) (b : List ℕ) where
  -- what is behind the nodes' checks is told
  with : {P Q : ℕ → ℕ → Type 0} (xs ys rest : List Check) → SameOr P Q xs ys → SameOr P Q (checks_with ed b xs rest) (checks_with ed b ys rest)
  unfolding checks_with
  with xs ys rest s =
      same-append (layout_checks ed b) _ _ _ (same-all _)
      (same-append (string_checks (values ed b)) _ _ _ (same-all _)
      (same-append (string_checks (names ed b)) _ _ _ (same-all _)
      (same-append (special_checks ed b) _ _ _ (same-all _)
      (same-append (all_key_checks ed b) _ _ _ (same-all _)
      (same-append xs ys _ _ s (same-all rest))))))

  verdict_with : (room : ℕ) → verdict_of ed b room ≡ first_fault (checks_with ed b (all_node_checks ed b) (tree_checks ed b room))
  unfolding verdict_of accept_checks checks_with
  verdict_with room = refl

  -- 19 at an attribute where the folds differ
  abbrev Nineteen : ℕ → ℕ → Type 0
  Nineteen n p = (n ≡ 19) × AtDiffering ed b p

  at_differing : (seg el i : ℕ) (u : UsedNode ed b seg el) (l : i < attribute_count b (node_at ed b seg el))
      → FoldsDiffer ed b (attribute_at ed b (node_at ed b seg el) i) → LiveDiffer ed b seg el i
  at_differing seg el i u l d = record { of = record { node = u; attribute = l }; differ = d }

  nodes-same : ((seg el i : ℕ) → LiveDiffer ed b seg el i → ⊥) → SameOr Never Never (all_node_checks ed b) (all_node_checks_before ed b)
  nodes-same f =
      nodes-moved ed b (λ seg el i u l.
      attribute-moved ed b _ i (λ d. f seg el i (at_differing seg el i u l d)) (λ d. f seg el i (at_differing seg el i u l d)))

  nodes_or_19 : SameOr Nineteen Nineteen (all_node_checks ed b) (all_node_checks_before ed b)
  nodes_or_19 =
      nodes-moved ed b (λ seg el i u l.
      attribute-moved ed b _ i
      (λ d. (refl, (seg, el, i, at_differing seg el i u l d, refl)))
      (λ d. (refl, (seg, el, i, at_differing seg el i u l d, refl))))

  -- the nodes' checks hold where all of the file's before the tree's do
  nodes_clean : (nodes : List Check) → Clean (checks_with ed b nodes []) → Clean nodes
  unfolding checks_with
  nodes_clean nodes e =
      let l = append_inv (layout_checks ed b) _ e in
      let v = append_inv (string_checks (values ed b)) _ l.1 in
      let n = append_inv (string_checks (names ed b)) _ v.1 in
      let s = append_inv (special_checks ed b) _ n.1 in
      let k = append_inv (all_key_checks ed b) _ s.1 in
      (append_inv nodes [] k.1).0

  -- a refusal before the tree's checks is the verdict in any workspace
  with_rest : (nodes rest : List Check) → checks_with ed b nodes [] ++ rest ≡ checks_with ed b nodes rest
  unfolding checks_with
  with_rest nodes rest =
      append_assoc (layout_checks ed b) _ rest ∙ ap (◌++◌ (layout_checks ed b))
      (append_assoc (string_checks (values ed b)) _ rest ∙ ap (◌++◌ (string_checks (values ed b)))
      (append_assoc (string_checks (names ed b)) _ rest ∙ ap (◌++◌ (string_checks (names ed b)))
      (append_assoc (special_checks ed b) _ rest ∙ ap (◌++◌ (special_checks ed b))
      (append_assoc (all_key_checks ed b) _ rest ∙ ap (◌++◌ (all_key_checks ed b))
      (append_assoc nodes [] rest)))))

  whatever_room : {n p : ℕ} → first_fault (checks_with ed b (all_node_checks ed b) []) ≡ Refused n p → (room : ℕ) → verdict_of ed b room ≡ Refused n p
  whatever_room e room =
      verdict_with room ∙ ap first_fault (sym (with_rest (all_node_checks ed b) (tree_checks ed b room))) ∙ fault_keep _ (tree_checks ed b room) e

  -- both folds gave what is stored at each attribute: they do not differ
  not_clean : Clean (all_node_checks_before ed b) → Clean (all_node_checks ed b) → (seg el i : ℕ) → LiveDiffer ed b seg el i → ⊥
  not_clean e f seg el i d =
      not_both ed b _ d.differ ((((nodes_iff ed b).0 f).each seg el d.of.node).text i d.of.attribute)
      (right-before ed b seg el i e d.of.node d.of.attribute)

  refuse : BuiltBefore ed b → (seg el i : ℕ) → LiveDiffer ed b seg el i → (p : ℕ) × AtDiffering ed b p × ((room : ℕ) → verdict_of ed b room ≡ Refused 19 p)
  refuse h seg el i d =
      let old = (clean_iff (checks_with ed b (all_node_checks_before ed b) [])).1 h in
      ⊎_elim
      (λ e. absurd (not_clean (nodes_clean _ old) (nodes_clean _ (e ∙ old)) seg el i d))
      (λ w. ⊎_elim
      (λ r. (r.1, r.3.1, whatever_room (r.2 ∙ ap (λ (n : ℕ). Refused n r.1) r.3.0)))
      (λ r. absurd (never r.2 old))
      w)
      (with _ _ [] nodes_or_19)

  pub fold_moved : FoldMoved ed b
  unfolding verdict_old_fold
  fold_moved = record {
    same = λ f room. verdict_with room ∙ same_is _ _ (with _ _ (tree_checks ed b room) (nodes-same f));
    refused = refuse;
    kept = λ h f.
        (clean_iff (checks_with ed b (all_node_checks ed b) [])).0
        (same_is _ _ (with _ _ [] (nodes-same f)) ∙ (clean_iff (checks_with ed b (all_node_checks_before ed b) [])).1 h);
    moved = λ room. ⊎_elim
        (λ e. inl (verdict_with room ∙ e))
        (λ w. inr (⊎_elim
        (λ r. inl (r.1, verdict_with room ∙ r.2 ∙ ap (λ (n : ℕ). Refused n r.1) r.3.0, r.3.1))
        (λ r. inr (r.1, r.2 ∙ ap (λ (n : ℕ). Refused n r.1) r.3.0, r.3.1))
        w))
        (with _ _ (tree_checks ed b room) nodes_or_19);
  }
