-- Attributes and children, as the code goes along them, and a block by its parts. Assumes nothing.
use Prim.Native.Nat.{ℕ, zero, suc, ◌+◌, ◌-◌, ◌*◌, ◌<◌}
use native.Mathlib.Nat.{zero-add}
use native.Mathlib.Numerals.{sub-one}
use native.Mathlib.Omega.{arith}
use mathlib.Core.Path.{◌≡◌, refl, ap, sym, ◌∙◌}
use mathlib.Core.List.{List, [], ◌++◌}
use borrow.Author.Tests.{eq-eqb, ne_eqb}
use Rattle.region.specs.Region.{range_at}
use Rattle.std.specs.Prelude.{Option, Some, None, IsSome}
use Rattle.layout.specs.Edition.{attribute_size}
use Rattle.layout.specs.Layout.{attributes_at}
use Rattle.layout.specs.inner.View.{PlacesFit}
use Rattle.layout.specs.declared.Places.{Places}
use Rattle.layout.specs.declared.Edition.{Edition}
use Rattle.nodes.specs.Node.{attribute_field, attribute_segment, attribute_element, attribute_count, attribute_at}
use Rattle.nodes.proofs.Attributes.{attribute_is}
use Rattle.nodes.proofs.Ways.{attribute-count, attributes_sought, attributes-nowhere, attributes_start}
use Rattle.tree.specs.Chain.{ranged}
use Rattle.tree.specs.File.{node_of, tree_of}
use Rattle.tree.specs.inner.Children.{ChildrenOf}
use Rattle.tree.specs.declared.ranges.Children.{Children}
use Rattle.tree.proofs.Children.{first_is, count_is}
use Rattle.print.proofs.Puts.{Left}
use Rattle.outline.specs.Outline.{attribute_text, line, shown, block}
use Rattle.outline.specs.inner.Ready.{AttributeReady, NodeReady}

-- what is left of a run, with the place and the buffer by other names
pub left_same : {d d' d'' : List ℕ} {i p q : ℕ} {s t : List ℕ} → Left d i s p t d' → q ≡ p → d'' ≡ d' → Left d i s q t d''
left_same l e f = rw (e, f) l

-- what is not nowhere is somewhere
pub is_there : {A : Type 0} (o : Option A) → (o ≡ None → ⊥) → IsSome o
is_there None h = absurd (h refl)
is_there (Some x) h = refl

-- ---- attributes

-- the attributes of the node at x: how many, and where each stands
pub record Attributes (ed : Edition) (b : List ℕ) (x n q : ℕ) : Type 0 where
  pub count : n ≡ attribute_count b x
  pub place : (i : ℕ) → q + i * attribute_size ed ≡ attribute_at ed b x i

module _ {ed : Edition} {b : List ℕ} {x : ℕ} (k : NodeReady ed b x) where
  pub attributes-count : {n : ℕ} → n ≡ attribute_field b x → n ≡ attribute_count b x
  attributes-count {n} e = attribute-count b x k.live n e

  module _ {p : Places} (w : PlacesFit ed b p) {n seg el : ℕ} (c : n ≡ attribute_field b x) (s : seg ≡ attribute_segment b x) (l : el ≡ attribute_element b x) {r : Option ℕ} (f : r ≡ range_at (attribute_size ed) b p.attributes.at seg el n) where
    sought : r ≡ range_at (attribute_size ed) b (attributes_at b) (attribute_segment b x) (attribute_element b x) n
    sought = attributes_sought ed b x n p.attributes w.attributes seg el s l r f

    pub attributes_there : (n ≡ 0 → ⊥) → IsSome r
    attributes_there z = is_there r (λ e. attributes-nowhere ed b x n (attributes-count c) r sought (omega arith) e k.attributes)

    pub attributes-at : {q : ℕ} → r ≡ Some q → Attributes ed b x n q
    attributes-at {q} e = record {
      count = attributes-count c;
      place = λ i. attribute_is ed b x i q (attributes_start ed b x n (attributes-count c) r sought q e);
    }

-- one of them
module _ {ed : Edition} {b : List ℕ} {x n q : ℕ} (t : Attributes ed b x n q) (i : ℕ) (h : i < n) where
  pub attribute_ready : NodeReady ed b x → AttributeReady ed b (q + i * attribute_size ed)
  attribute_ready k = rw (t.place i) (k.attribute i (omega (arith, t.count)))

pub attribute-text : {ed : Edition} {b : List ℕ} {x n q : ℕ} → Attributes ed b x n q → (i : ℕ) → attribute_text ed b (q + i * attribute_size ed) ≡ attribute_text ed b (attribute_at ed b x (0 + i))
attribute-text {ed} {b} {x} {n} {q} t i = ap (attribute_text ed b) (t.place i ∙ ap (attribute_at ed b x) (sym (zero-add i)))

-- ---- children

module _ (ed : Edition) (b : List ℕ) (f : ℕ → List ℕ) (c : ℕ) where
  pub shown-live : ((tree_of ed b).name c ≡ 0 → ⊥) → f c ≡ shown ed b f c
  unfolding shown
  shown-live h = rw (ne_eqb ((tree_of ed b).name c) 0 h)

  pub shown-not : (tree_of ed b).name c ≡ 0 → [] ≡ shown ed b f c
  unfolding shown
  shown-not h = rw (eq-eqb ((tree_of ed b).name c) 0 h)

-- they are the node's in the tree
pub range_is : {ed : Edition} {b : List ℕ} (a : ℕ) {x : ℕ} → x ≡ node_of ed b a → {k : Children} → ChildrenOf ed b x k
    → (f : ℕ → List ℕ) → ranged f k.first k.count ≡ ranged f ((tree_of ed b).first a) ((tree_of ed b).count a)
range_is a q h f = rw (first_is a q h, count_is a q h)

-- ---- a block

module _ (ed : Edition) (b : List ℕ) (level a x : ℕ) (q : x ≡ node_of ed b a) where
  pub block_leaf : (left : ℕ) → left ≡ 0 → line ed b level x ≡ block ed b left level a
  unfolding block
  block_leaf left z = rw (z, q)

  pub block_more : (left : ℕ) → (left ≡ 0 → ⊥)
      → line ed b level x ++ ranged (shown ed b (block ed b (left - 1) (level + 1))) ((tree_of ed b).first a) ((tree_of ed b).count a) ≡ block ed b left level a
  unfolding block
  block_more zero z = absurd (z refl)
  block_more (suc left) z = rw (sub-one, q)
