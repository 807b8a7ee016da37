-- The ways out of the check of one node, and what the code reads on them. Assumes nothing.
use Prim.Native.Nat.{ℕ, ◌+◌, ◌*◌, ◌≤◌, ◌<◌}
use native.Mathlib.Nat.{not-suc-le-zero}
use native.Mathlib.Omega.{arith}
use mathlib.Core.Path.{◌≡◌, refl, ap, sym, ◌∙◌}
use mathlib.Core.Logic.{inl}
use mathlib.Core.List.{List, [], ◌∷◌, ◌++◌}
use lib.ListN.{length}
use borrow.Author.Tests.{eq-eqb, ne_eqb}
use Rattle.verdict.specs.Checks.{Check, check, first_fault}
use Rattle.verdict.specs.Verdict.{Verdict, Accepted, Refused}
use Rattle.verdict.proofs.Laws.{Clean, pass, stop, fault_none, fault_append, fault_keep}
use Rattle.verdict.proofs.Scans.{each_end}
use Rattle.std.specs.Prelude.{Option, Some, None}
use Rattle.region.specs.declared.Region.{Region}
use Rattle.region.specs.Region.{Laid, Resolves, range_at, place_of}
use Rattle.region.specs.inner.Samples.{Mapped}
use Rattle.region.proofs.Laws.{place-fits, range-each}
use Rattle.layout.specs.Edition.{attribute_size, node_size}
use Rattle.layout.specs.Layout.{attributes_at, nodes_at}
use Rattle.layout.specs.declared.Edition.{Edition}
use Rattle.nodes.specs.Node.{node_name, attribute_field, child_field, attribute_segment, attribute_element, attribute_count, child_count, Live, node_at, attribute_at}
use Rattle.nodes.specs.Rules.{NodeRule, AttributesReach, ChildRule}
use Rattle.nodes.specs.Decisions.{node_rule?, child_rule?}
use Rattle.nodes.specs.Order.{node_attribute_checks, attribute_range_checks, node_checks}
use Rattle.nodes.proofs.Sought.{sought_out, sought_in, sought_range, sought_at, sought_fits}

-- ---- counts: a nameless node has none, a live one those of its fields

module _ (b : List ℕ) (p : ℕ) where
  nameless_attributes : node_name b p ≡ 0 → attribute_count b p ≡ 0
  unfolding attribute_count
  nameless_attributes z = rw (eq-eqb (node_name b p) 0 z)

  pub nameless_children : node_name b p ≡ 0 → child_count b p ≡ 0
  unfolding child_count
  nameless_children z = rw (eq-eqb (node_name b p) 0 z)

  pub attribute-count : Live b p → (n : ℕ) → n ≡ attribute_field b p → n ≡ attribute_count b p
  unfolding attribute_count
  attribute-count l n e = rw (ne_eqb (node_name b p) 0 l) e

  pub child-count : Live b p → (n : ℕ) → n ≡ child_field b p → n ≡ child_count b p
  unfolding child_count
  child-count l n e = rw (ne_eqb (node_name b p) 0 l) e

pub node-fits : (ed : Edition) (b : List ℕ) (seg el x : ℕ) → Laid (node_size ed) b (nodes_at ed b) → Resolves (node_size ed) b (nodes_at ed b) seg el → x ≡ node_at ed b seg el → x + node_size ed ≤ length b
unfolding node_at
node-fits ed b seg el x g h q = omega (arith, place-fits (node_size ed) b (nodes_at ed b) g seg el h)

pub live-node : (b : List ℕ) (x n : ℕ) → n ≡ node_name b x → (n ≡ 0 → ⊥) → Live b x
live-node b x n e d z = d (e ∙ z)

-- ---- 17

-- where the attributes of the node at p are looked for, as the code reads it
pub attributes_sought : (ed : Edition) (b : List ℕ) (p n : ℕ) (g : Region) → Mapped (attribute_size ed) b (attributes_at b) g
    → (seg el : ℕ) → seg ≡ attribute_segment b p → el ≡ attribute_element b p → (r : Option ℕ) → r ≡ range_at (attribute_size ed) b g.at seg el n
    → r ≡ range_at (attribute_size ed) b (attributes_at b) (attribute_segment b p) (attribute_element b p) n
attributes_sought ed b p n g w seg el s t r f = let a = w.at_is in cc

module _ (ed : Edition) (b : List ℕ) (p n : ℕ) (c : n ≡ attribute_count b p) where
  pub range_none : n ≡ 0 → Accepted ≡ first_fault (attribute_range_checks ed b p)
  unfolding attribute_range_checks node_attribute_checks
  range_none z = sym (pass _ _ _ _ _ (inl (sym c ∙ z)) ∙ each_end _ _ _ (sym c ∙ z))

  module _ (r : Option ℕ) (f : r ≡ range_at (attribute_size ed) b (attributes_at b) (attribute_segment b p) (attribute_element b p) n) where
    pub attributes-nowhere : 0 < n → r ≡ None → AttributesReach ed b p → ⊥
    attributes-nowhere l e h = sought_out _ _ _ _ _ _ _ c r f (λ z. omega arith) e h

    pub range-nowhere : (n ≡ 0 → ⊥) → r ≡ None → Refused 17 p ≡ first_fault (attribute_range_checks ed b p)
    unfolding attribute_range_checks
    range-nowhere d e = sym (stop _ _ _ _ _ (attributes-nowhere (omega arith) e))

    module _ (a : ℕ) (e : r ≡ Some a) where
      pub range-told : (v : Verdict) → v ≡ first_fault (node_attribute_checks ed b p) → v ≡ first_fault (attribute_range_checks ed b p)
      unfolding attribute_range_checks
      range-told v g = g ∙ sym (pass _ _ _ _ _ (sought_in _ _ _ _ _ _ _ c r f a e))

      pub attributes_fit : Laid (attribute_size ed) b (attributes_at b) → a + n * attribute_size ed ≤ length b
      attributes_fit g = sought_fits _ _ _ _ _ _ _ c r f a e g

      pub attributes_start : a ≡ attribute_at ed b p 0
      unfolding attribute_at
      attributes_start = let z : attribute_element b p + 0 ≡ attribute_element b p = omega arith in rw z (sought_at _ _ _ _ _ _ _ c r f a e)

      -- what is known of all used attributes is known of these
      pub attributes-known : (P : ℕ → Type 0) → ((seg el : ℕ) → Resolves (attribute_size ed) b (attributes_at b) seg el → P (place_of (attribute_size ed) b (attributes_at b) seg el))
          → (i : ℕ) → i < n → P (attribute_at ed b p i)
      unfolding attribute_at
      attributes-known P k i l = k _ _ (range-each _ _ _ _ _ n i (sought_range _ _ _ _ _ _ _ c r f a e) l)

-- ---- the verdict on node seg:el, which stands at x, for each way out

checks_at : Edition → List ℕ → ℕ → ℕ → ℕ → List Check
checks_at ed b seg el x =
    check 16 x (NodeRule ed b seg el) (node_rule? ed b seg el)
    ∷ (attribute_range_checks ed b x ++ (check 23 x (ChildRule ed b x) (child_rule? ed b x) ∷ []))

module _ (ed : Edition) (b : List ℕ) (seg el x : ℕ) (q : x ≡ node_at ed b seg el) where
  at-node : node_checks ed b seg el ≡ checks_at ed b seg el x
  unfolding node_checks checks_at
  at-node = ap (checks_at ed b seg el) (sym q)

  pub refused_16 : (NodeRule ed b seg el → ⊥) → Refused 16 x ≡ first_fault (node_checks ed b seg el)
  unfolding checks_at
  refused_16 f = sym (ap first_fault at-node ∙ stop _ _ _ _ _ f)

  module _ (r : NodeRule ed b seg el) where
    pub refused-range : {n p : ℕ} → first_fault (attribute_range_checks ed b x) ≡ Refused n p → Refused n p ≡ first_fault (node_checks ed b seg el)
    unfolding checks_at
    refused-range e = sym (ap first_fault at-node ∙ pass _ _ _ _ _ r ∙ fault_keep _ _ e)

    module _ (a : Clean (attribute_range_checks ed b x)) where
      pub refused_23 : (ChildRule ed b x → ⊥) → Refused 23 x ≡ first_fault (node_checks ed b seg el)
      unfolding checks_at
      refused_23 f = sym (ap first_fault at-node ∙ pass _ _ _ _ _ r ∙ fault_append _ _ a ∙ stop _ _ _ _ _ f)

      pub node_passes : ChildRule ed b x → Accepted ≡ first_fault (node_checks ed b seg el)
      unfolding checks_at
      node_passes h = sym (ap first_fault at-node ∙ pass _ _ _ _ _ r ∙ fault_append _ _ a ∙ pass _ _ _ _ _ h ∙ fault_none)

    pub nameless_passes : (n : ℕ) → n ≡ node_name b x → n ≡ 0 → Accepted ≡ first_fault (node_checks ed b seg el)
    nameless_passes n e v = let z : node_name b x ≡ 0 = sym e ∙ v in node_passes (sym (range_none ed b x 0 (sym (nameless_attributes b x z)) refl))
        (record { reach = inl (nameless_children b x z); rising = λ j l. absurd (not-suc-le-zero {n = j} (omega (arith, nameless_children b x z))) })
