-- Refusals 16 to 19 and 23 find nothing exactly when their rules hold of the file. Assumes nothing.
use Prim.Native.Nat.{ℕ, ◌<◌}
use native.Mathlib.Omega.{arith}
use mathlib.Core.Path.{◌≡◌, ◌∙◌}
use mathlib.Core.Logic.{◌↔◌}
use mathlib.Core.List.{List}
use Rattle.verdict.specs.Checks.{first_fault}
use Rattle.verdict.specs.Verdict.{Accepted}
use Rattle.verdict.proofs.Laws.{Clean, pass, clean_inv, append_inv, fault_append, fault_none, each_inv, each_clean}
use Rattle.layout.specs.declared.Edition.{Edition}
use Rattle.nodes.specs.Node.{node_at, attribute_count, attribute_at}
use Rattle.nodes.specs.Rules.{AttributeRule, TextRight, NodeRules, NodesRules}
use Rattle.nodes.specs.Order.{attribute_checks, node_attribute_checks, attribute_range_checks, node_checks, segment_node_checks, all_node_checks}

module _ (ed : Edition) (b : List ℕ) where
  attribute_inv : (p i : ℕ) → Clean (attribute_checks ed b p i) → AttributeRule ed b p i × TextRight ed b (attribute_at ed b p i)
  unfolding attribute_checks
  attribute_inv p i e = let x = clean_inv _ _ _ _ _ e in (x.0, (clean_inv _ _ _ _ _ x.1).0)

  attribute_clean : (p i : ℕ) → AttributeRule ed b p i → TextRight ed b (attribute_at ed b p i) → Clean (attribute_checks ed b p i)
  unfolding attribute_checks
  attribute_clean p i h l = pass _ _ _ _ _ h ∙ pass _ _ _ _ _ l ∙ fault_none

  attributes_inv : (p : ℕ) → Clean (node_attribute_checks ed b p) → (i : ℕ) → i < attribute_count b p → AttributeRule ed b p i × TextRight ed b (attribute_at ed b p i)
  unfolding node_attribute_checks
  attributes_inv p e i h = attribute_inv p i (each_inv _ _ _ e i (omega arith) (omega arith))

  pub node_inv : (seg el : ℕ) → Clean (node_checks ed b seg el) → NodeRules ed b seg el
  unfolding node_checks attribute_range_checks
  node_inv seg el e =
      let x = clean_inv _ _ _ _ _ e in
      let y = clean_inv _ _ _ _ _ x.1 in
      let z = append_inv (node_attribute_checks ed b (node_at ed b seg el)) _ y.1 in
      let a = attributes_inv (node_at ed b seg el) z.0 in
      record {
        node = x.0;
        attributes = y.0;
        attribute = λ i h. (a i h).0;
        text = λ i h. (a i h).1;
        children = (clean_inv _ _ _ _ _ z.1).0;
      }

  pub node_clean : (seg el : ℕ) → NodeRules ed b seg el → Clean (node_checks ed b seg el)
  unfolding node_checks attribute_range_checks node_attribute_checks
  node_clean seg el g =
      pass _ _ _ _ _ g.node ∙ pass _ _ _ _ _ g.attributes
      ∙ fault_append _ _ (each_clean _ _ _ (λ i l h. attribute_clean (node_at ed b seg el) i (g.attribute i (omega arith)) (g.text i (omega arith))))
      ∙ pass _ _ _ _ _ g.children ∙ fault_none

  accepted-nodes : Clean (all_node_checks ed b) → NodesRules ed b
  unfolding all_node_checks segment_node_checks
  accepted-nodes e =
      let x = clean_inv _ _ _ _ _ e in
      record {
        root = x.0;
        each = λ seg el h.
            node_inv seg el (each_inv _ _ _ (each_inv _ _ _ x.1 seg (omega arith) (omega (arith, h.seg_in))) el (omega arith) (omega (arith, h.el_in)));
      }

  nodes-accepted : NodesRules ed b → Clean (all_node_checks ed b)
  unfolding all_node_checks segment_node_checks
  nodes-accepted g =
      pass _ _ _ _ _ g.root
      ∙ each_clean _ _ _ (λ seg l h. each_clean _ _ _ (λ el m k. node_clean seg el (g.each seg el (record { seg_in = omega arith; el_in = omega arith }))))

  pub nodes_iff : first_fault (all_node_checks ed b) ≡ Accepted ↔ NodesRules ed b
  nodes_iff = (accepted-nodes, nodes-accepted)
