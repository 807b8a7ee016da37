-- Refusals 18 and 19 of a node's attributes, as the code tells them. Assumes nothing.
use Prim.Native.Nat.{ℕ, ◌+◌, ◌-◌, ◌*◌, ◌≤◌, ◌<◌}
use native.Mathlib.Omega.{arith}
use mathlib.Core.Path.{◌≡◌, ap, sym, subst, ◌∙◌}
use mathlib.Core.Bool.{true, false}
use mathlib.Core.Logic.{◌⊎◌, inl, inr, ⊎_elim}
use mathlib.Core.List.{List}
use lib.Dec.{eqb}
use Rattle.verdict.specs.Checks.{first_fault, each}
use Rattle.verdict.specs.inner.Tells.{Tells}
use Rattle.verdict.specs.Verdict.{Verdict, Accepted, Refused}
use Rattle.verdict.proofs.Laws.{pass, stop, fault_none, tells_yes, tells_no, tells_eqb}
use Rattle.verdict.proofs.Scans.{each_more, each_stop, each_end, row_same}
use Rattle.words.specs.Words.{type_of}
use Rattle.region.proofs.Laws.{place-row}
use Rattle.layout.specs.Edition.{attribute_size}
use Rattle.layout.specs.Layout.{attributes_at}
use Rattle.layout.specs.declared.Edition.{Edition}
use Rattle.keys.specs.Names.{value_name, Bears}
use Rattle.keys.specs.inner.Known.{Known}
use Rattle.keys.specs.declared.Names.{Names}
use Rattle.nodes.specs.Node.{attribute_segment, attribute_element, attribute_count, attribute_at}
use Rattle.nodes.specs.Attribute.{attribute_name, type_word, Typed}
use Rattle.nodes.specs.Rules.{AttributeRule, TextRight}
use Rattle.nodes.specs.Order.{attribute_checks, node_attribute_checks}
use Rattle.nodes.proofs.Types.{kind_is}

-- ---- the attributes of a node stand in a row

module _ (ed : Edition) (b : List ℕ) (p : ℕ) where
  from_first : (i : ℕ) → attribute_at ed b p i ≡ attribute_at ed b p 0 + i * attribute_size ed
  unfolding attribute_at
  from_first i =
      let r = place-row (attribute_size ed) b (attributes_at b) (attribute_segment b p) (attribute_element b p) in
      omega (arith, r i, r 0)

  pub attribute_is : (i a : ℕ) → a ≡ attribute_at ed b p 0 → a + i * attribute_size ed ≡ attribute_at ed b p i
  attribute_is i a e = omega (arith, from_first i)

  attribute-before : (i : ℕ) → 1 ≤ i → attribute_at ed b p (i - 1) + attribute_size ed ≡ attribute_at ed b p i
  attribute-before i h =
      let z : i ≡ i - 1 + 1 = omega arith in
      omega (arith, from_first i, from_first (i - 1), ap (λ (x : ℕ). x * attribute_size ed) z)

  pub before_in : (i q : ℕ) → q ≡ attribute_at ed b p i → 1 ≤ i → attribute_size ed ≤ q
  before_in i q e h = omega (arith, attribute-before i h)

-- ---- 18

-- its name is above that of the one before
abbrev pub Above : Edition → List ℕ → ℕ → ℕ → Type 0
Above ed b p i = (i ≡ 0) ⊎ (attribute_name b (attribute_at ed b p (i - 1)) < attribute_name b (attribute_at ed b p i))

module _ (ed : Edition) (b : List ℕ) (n : Names) (g : Known ed b n) (p i q : ℕ) (e : q ≡ attribute_at ed b p i) (x : ℕ) (f : x ≡ attribute_name b q) where
  name_is : attribute_name b (attribute_at ed b p i) ≡ x
  name_is = ap (attribute_name b) (sym e) ∙ sym f

  -- the one before
  module _ (h : 0 < i) (y : ℕ) (d : y ≡ attribute_name b (q - attribute_size ed)) where
    before_is : attribute_name b (attribute_at ed b p (i - 1)) ≡ y
    before_is =
        let z : attribute_at ed b p (i - 1) ≡ q - attribute_size ed = omega (arith, attribute-before ed b p i h) in
        ap (attribute_name b) z ∙ sym d

    pub name_falls : x ≤ y → Tells (AttributeRule ed b p i) false
    name_falls l = tells_no (λ r. ⊎_elim (λ z. omega arith) (λ z. omega (arith, name_is, before_is)) r.above)

    pub name_rises : y < x → Above ed b p i
    name_rises l = inr (omega (arith, name_is, before_is))

  pub name-first : i ≤ 0 → Above ed b p i
  name-first h = inl (omega arith)

  module _ (l : x ≡ 0 → ⊥) (h : x ≤ n.count) (a : Above ed b p i) (t : Typed b q) where
    right : (x ≡ n.value → type_of (type_word b q) ≡ 3) → AttributeRule ed b p i
    right v = record {
      low = omega (arith, name_is);
      high = omega (arith, name_is, g.count);
      above = a;
      typed = subst (Typed b) e t;
      value = λ w. ap (λ (z : ℕ). type_of (type_word b z)) (sym e) ∙ v (sym name_is ∙ g.only_value _ w);
    }

    pub right_other : (x ≡ n.value → ⊥) → Tells (AttributeRule ed b p i) true
    right_other d = tells_yes (right (λ w. absurd (d w)))

    pub right-value : x ≡ n.value → (w k : ℕ) → w ≡ type_word b q → k ≡ type_of w → Tells (AttributeRule ed b p i) (eqb k 3)
    right-value d w k c m =
        let z = kind_is b q w c k m in
        tells_eqb k 3 (λ o. right (λ s. z ∙ o))
        (λ r. sym z ∙ ap (λ (s : ℕ). type_of (type_word b s)) e ∙ r.value (subst (λ (s : ℕ). Bears ed b s value_name) (sym (name_is ∙ d)) g.value))

-- ---- what the loop has left: from attribute i on

unfoldable pub attributes_left : Edition → List ℕ → ℕ → ℕ → Verdict
attributes_left ed b p i = first_fault (each (attribute_checks ed b p) (attribute_count b p - i) i)

module _ (ed : Edition) (b : List ℕ) (p : ℕ) where
  pub attributes_start : first_fault (node_attribute_checks ed b p) ≡ attributes_left ed b p 0
  unfolding node_attribute_checks attributes_left
  attributes_start = row_same _ _ _ _ (omega arith)

  module _ (i n : ℕ) (c : n ≡ attribute_count b p) where
    pub attributes-none : n ≤ i → attributes_left ed b p i ≡ Accepted
    unfolding attributes_left
    attributes-none h = each_end _ _ _ (omega arith)

    module _ (h : i < n) (q : ℕ) (e : q ≡ attribute_at ed b p i) where
      pub refused_18 : (AttributeRule ed b p i → ⊥) → attributes_left ed b p i ≡ Refused 18 q
      unfolding attributes_left attribute_checks
      refused_18 f = each_stop (attribute_checks ed b p) _ _ (omega arith) (stop _ _ _ _ _ f) ∙ ap (Refused 18) (sym e)

      pub refused_19 : AttributeRule ed b p i → (TextRight ed b q → ⊥) → attributes_left ed b p i ≡ Refused 19 q
      unfolding attributes_left attribute_checks
      refused_19 r f =
          each_stop (attribute_checks ed b p) _ _ (omega arith) (pass _ _ _ _ _ r ∙ stop _ _ _ _ _ (λ t. f (subst (TextRight ed b) (sym e) t)))
          ∙ ap (Refused 19) (sym e)

      pub attributes_more : AttributeRule ed b p i → TextRight ed b q → attributes_left ed b p i ≡ attributes_left ed b p (i + 1)
      unfolding attributes_left attribute_checks
      attributes_more r t =
          each_more (attribute_checks ed b p) _ _ _ (omega arith) (pass _ _ _ _ _ r ∙ pass _ _ _ _ _ (subst (TextRight ed b) e t) ∙ fault_none)
