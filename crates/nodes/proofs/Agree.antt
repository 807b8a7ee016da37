-- The rules of nodes and attributes still hold where the value of an attribute of type 1 changes. Groundwork for request T-12 of document
-- 02: its contract will use `attribute-place-same`, `attribute-used`, `value-of-same`, `put_value` and `put_changed`. Assumes nothing.
use Prim.Native.Nat.{ℕ, ◌+◌, ◌-◌, ◌^◌, ◌≤◌, ◌<◌}
use native.Mathlib.Omega.{arith}
use mathlib.Core.Path.{◌≡◌, ap, ◌∙◌}
use mathlib.Core.Logic.{◌⊎◌, inl, inr, ⊎_elim}
use mathlib.Core.List.{List}
use lib.ListN.{length}
use Rattle.laws.specs.inner.Lists.{splice}
use Rattle.le.specs.Le.{le4}
use Rattle.le.proofs.Agree.{Agree, Off, u16_same, u32_same, put_agree, put_read}
use Rattle.words.specs.Words.{type_of, extended_of}
use Rattle.region.specs.Region.{Resolves, place_of}
use Rattle.region.proofs.Laws.{range-each, place-fits}
use Rattle.region.proofs.Agree.{alike_back, place_same, place-from, place-within, places-apart, start_behind, resolves_same, reaches_same}
use Rattle.layout.specs.Edition.{attribute_size, node_size}
use Rattle.layout.specs.Layout.{attributes_at, nodes_at, values_at, values, LaidOut, value_bucket_count}
use Rattle.layout.specs.declared.Edition.{Edition}
use Rattle.layout.proofs.Agree.{Inside, alike_file, nodes_behind, values_behind}
use Rattle.layout.proofs.Sizes.{attribute-least}
use Rattle.strings.proofs.Agree.{text_to_same, address_same}
use Rattle.keys.proofs.Agree.{name-count-same, bears_same, bears_back}
use Rattle.nodes.specs.Node.{node_name, key_word, attribute_field, child_field, attribute_segment, attribute_element, child_segment, child_element, Live, attribute_count, child_count, node_at, attribute_at, child_at}
use Rattle.nodes.specs.Attribute.{attribute_name, type_word, value_word, text_segment, text_element, Typed, value_of}
use Rattle.nodes.specs.Rules.{RootRule, NodeRule, AttributesReach, AttributeRule, TextRight, ChildRule, NodeRules, NodesRules}

-- ---- nodes stand behind the four bytes: each field is the same

module _ {ed : Edition} {b c : List ℕ} {x : ℕ} (a : Agree b c x) (h : Inside ed b x) where
  pub node-at-same : (seg el : ℕ) → node_at ed c seg el ≡ node_at ed b seg el
  unfolding node_at
  node-at-same seg el = rw (alike_file a h).nodes-at (place_same (alike_file a h).nodes seg el)

  pub node-low : (seg el : ℕ) → x + 4 ≤ node_at ed b seg el
  unfolding node_at
  node-low seg el = omega (arith, nodes_behind a h, place-from (node_size ed) b (nodes_at ed b) seg el, start_behind (node_size ed) b (nodes_at ed b) seg)

  pub node-used : (seg el : ℕ) → Resolves (node_size ed) b (nodes_at ed b) seg el → Resolves (node_size ed) c (nodes_at ed c) seg el
  node-used seg el r = rw (alike_file a h).nodes-at (resolves_same (alike_file a h).nodes seg el r)

  pub node_back : (seg el : ℕ) → Resolves (node_size ed) c (nodes_at ed c) seg el → Resolves (node_size ed) b (nodes_at ed b) seg el
  node_back seg el r = resolves_same (alike_back (alike_file a h).nodes) seg el (rw (alike_file a h).nodes-at at r)

  module _ (p : ℕ) (l : x + 4 ≤ p) where
    pub name-same : node_name c p ≡ node_name b p
    unfolding node_name
    name-same = u16_same a p (inr l)

    key_word_same : key_word c p ≡ key_word b p
    unfolding key_word
    key_word_same = u16_same a _ (inr (omega arith))

    attribute-field-same : attribute_field c p ≡ attribute_field b p
    unfolding attribute_field
    attribute-field-same = u16_same a _ (inr (omega arith))

    child-field-same : child_field c p ≡ child_field b p
    unfolding child_field
    child-field-same = u16_same a _ (inr (omega arith))

    attribute-segment-same : attribute_segment c p ≡ attribute_segment b p
    unfolding attribute_segment
    attribute-segment-same = u16_same a _ (inr (omega arith))

    attribute-element-same : attribute_element c p ≡ attribute_element b p
    unfolding attribute_element
    attribute-element-same = u16_same a _ (inr (omega arith))

    pub child-segment-same : child_segment ed c p ≡ child_segment ed b p
    unfolding child_segment
    child-segment-same = u16_same a _ (inr (omega arith))

    pub child-element-same : child_element ed c p ≡ child_element ed b p
    unfolding child_element
    child-element-same = u16_same a _ (inr (omega arith))

    pub attribute-count-same : attribute_count c p ≡ attribute_count b p
    unfolding attribute_count
    attribute-count-same = rw (name-same, attribute-field-same)

    pub child-count-same : child_count c p ≡ child_count b p
    unfolding child_count
    child-count-same = rw (name-same, child-field-same)

    pub attribute-at-same : (i : ℕ) → attribute_at ed c p i ≡ attribute_at ed b p i
    unfolding attribute_at
    attribute-at-same i =
        rw ((alike_file a h).attributes-at, attribute-segment-same, attribute-element-same) (place_same (alike_file a h).attributes _ _)

    child-at-same : (i : ℕ) → child_at ed c p i ≡ child_at ed b p i
    unfolding child_at
    child-at-same i = rw (child-segment-same, child-element-same) (node-at-same _ _)

    child-low : (i : ℕ) → x + 4 ≤ child_at ed b p i
    unfolding child_at
    child-low i = node-low _ _

    live_back : Live c p → Live b p
    live_back v z = v (name-same ∙ z)

    reach-same : AttributesReach ed b p → AttributesReach ed c p
    reach-same g =
        rw ((alike_file a h).attributes-at, attribute-segment-same, attribute-element-same, attribute-count-same)
        (reaches_same (alike_file a h).attributes _ _ _ g)

    root-same : RootRule ed b p → RootRule ed c p
    root-same g = record { named = rw name-same (bears_same a h g.named); bare = attribute-field-same ∙ g.bare }

  module _ (p : ℕ) (l : x + 4 ≤ p) where
    child-live : (i : ℕ) → Live c (child_at ed c p i) → Live b (child_at ed b p i)
    child-live i v = live_back (child_at ed b p i) (child-low p l i) (rw (child-at-same p l i) at v)

    child-rule : ChildRule ed b p → ChildRule ed c p
    child-rule g =
        record {
          reach = rw ((alike_file a h).nodes-at, child-segment-same p l, child-element-same p l, child-count-same p l)
              (reaches_same (alike_file a h).nodes _ _ _ g.reach);
          rising = λ j m i n v w.
              rw (child-at-same p l i, child-at-same p l j, name-same (child_at ed b p i) (child-low p l i), name-same (child_at ed b p j) (child-low p l j))
              (g.rising j (rw (child-count-same p l) at m) i n (child-live i v) (child-live j w));
        }

  module _ (seg el : ℕ) where
    node-live : Live c (node_at ed c seg el) → Live b (node_at ed b seg el)
    node-live v = live_back (node_at ed b seg el) (node-low seg el) (rw (node-at-same seg el) at v)

    node-rule : NodeRule ed b seg el → NodeRule ed c seg el
    node-rule g =
        record {
          root = λ s e. rw (node-at-same seg el) (root-same (node_at ed b seg el) (node-low seg el) (g.root s e));
          name = rw (node-at-same seg el, name-same (node_at ed b seg el) (node-low seg el), name-count-same a h) g.name;
          flags = λ v. rw (node-at-same seg el, key_word_same (node_at ed b seg el) (node-low seg el)) (g.flags (node-live v));
          key = λ v. rw (node-at-same seg el, key_word_same (node_at ed b seg el) (node-low seg el), (alike_file a h).keys) (g.key (node-live v));
        }

-- ---- attributes

-- the offset of attribute seg:el
abbrev pub attribute_place : Edition → List ℕ → ℕ → ℕ → ℕ
attribute_place ed b seg el = place_of (attribute_size ed) b (attributes_at b) seg el

-- c is b with another value in attribute seg:el, which is used and of type 1; where it is a truth, the new value is 0 or 1
pub record Changed (ed : Edition) (b c : List ℕ) (seg el : ℕ) : Type 0 where
  pub agree : Agree b c (attribute_place ed b seg el + 4)
  pub used : Resolves (attribute_size ed) b (attributes_at b) seg el
  pub whole : type_of (type_word b (attribute_place ed b seg el)) ≡ 1
  pub truth : extended_of (type_word b (attribute_place ed b seg el)) ≡ 1 → value_word c (attribute_place ed b seg el) ≤ 1

module _ {ed : Edition} {b c : List ℕ} {seg el : ℕ} (g : LaidOut ed b) (d : Changed ed b c seg el) where
  pub inside : Inside ed b (attribute_place ed b seg el + 4)
  inside =
      record {
        segment = seg;
        seg_in = d.used.seg_in;
        from = omega (arith, place-from (attribute_size ed) b (attributes_at b) seg el);
        till = omega (arith, attribute-least ed, place-within g.attributes seg el d.used);
      }

  -- every attribute keeps its offset, and is used as before
  pub attribute-place-same : (s e : ℕ) → attribute_place ed c s e ≡ attribute_place ed b s e
  attribute-place-same s e = rw (alike_file d.agree inside).attributes-at (place_same (alike_file d.agree inside).attributes s e)

  pub attribute-used : (s e : ℕ) → Resolves (attribute_size ed) b (attributes_at b) s e → Resolves (attribute_size ed) c (attributes_at c) s e
  attribute-used s e r = rw (alike_file d.agree inside).attributes-at (resolves_same (alike_file d.agree inside).attributes s e r)

  -- a used attribute is the changed one, or shares no byte with the changed value
  apart : (s e : ℕ) → Resolves (attribute_size ed) b (attributes_at b) s e
      → (attribute_place ed b s e ≡ attribute_place ed b seg el) ⊎ Off (attribute_place ed b seg el + 4) (attribute_place ed b s e) 8
  apart s e r =
      ⊎_elim
      (λ q. inl (rw (q.0, q.1)))
      (λ q. inr (⊎_elim (λ m. inl (omega (arith, attribute-least ed))) (λ m. inr (omega (arith, attribute-least ed))) q))
      (places-apart g.attributes s e seg el r d.used)

  module _ (s e : ℕ) (r : Resolves (attribute_size ed) b (attributes_at b) s e) where
    fields_off : Off (attribute_place ed b seg el + 4) (attribute_place ed b s e) 4
    fields_off = ⊎_elim (λ q. inl (omega arith)) (λ q. ⊎_elim (λ m. inl (omega arith)) (λ m. inr m) q) (apart s e r)

    attribute-name-same : attribute_name c (attribute_place ed b s e) ≡ attribute_name b (attribute_place ed b s e)
    unfolding attribute_name
    attribute-name-same = u16_same d.agree _ (⊎_elim (λ q. inl (omega arith)) (λ q. inr q) fields_off)

    pub type_word_same : type_word c (attribute_place ed b s e) ≡ type_word b (attribute_place ed b s e)
    unfolding type_word
    type_word_same = u16_same d.agree _ (⊎_elim (λ q. inl (omega arith)) (λ q. inr (omega arith)) fields_off)

    module _ (q : Off (attribute_place ed b seg el + 4) (attribute_place ed b s e) 8) where
      value_off : Off (attribute_place ed b seg el + 4) (attribute_place ed b s e + 4) 4
      value_off = ⊎_elim (λ m. inl (omega arith)) (λ m. inr (omega arith)) q

      value_same : value_word c (attribute_place ed b s e) ≡ value_word b (attribute_place ed b s e)
      unfolding value_word
      value_same = u32_same d.agree _ value_off

      segment-same : text_segment c (attribute_place ed b s e) ≡ text_segment b (attribute_place ed b s e)
      unfolding text_segment
      segment-same = u16_same d.agree _ (⊎_elim (λ m. inl (omega arith)) inr value_off)

      element-same : text_element c (attribute_place ed b s e) ≡ text_element b (attribute_place ed b s e)
      unfolding text_element
      element-same = u16_same d.agree _ (⊎_elim (λ m. inl (omega arith)) (λ m. inr (omega arith)) value_off)

    truth_same : extended_of (type_word b (attribute_place ed b s e)) ≡ 1 → value_word b (attribute_place ed b s e) ≤ 1 → value_word c (attribute_place ed b s e) ≤ 1
    truth_same z v = ⊎_elim (λ q. rw q (d.truth (rw q at z))) (λ q. rw (value_same q) v) (apart s e r)

    -- an attribute at another place keeps its value
    pub value-of-same : (attribute_place ed b s e ≡ attribute_place ed b seg el → ⊥) → value_of c (attribute_place ed b s e) ≡ value_of b (attribute_place ed b s e)
    unfolding value_of
    value-of-same f =
        ⊎_elim
        (λ q. absurd (f q))
        (λ q. rw (type_word_same, value_same q, segment-same q, element-same q))
        (apart s e r)

    typed-same : Typed b (attribute_place ed b s e) → Typed c (attribute_place ed b s e)
    unfolding Typed
    typed-same t =
        rw type_word_same
        (⊎_elim
        (λ m. inl (m.0, ⊎_elim inl (λ n. inr (n.0, truth_same n.0 n.1)) m.1))
        inr
        t)

    text-right : TextRight ed b (attribute_place ed b s e) → TextRight ed c (attribute_place ed b s e)
    unfolding values
    text-right t z =
        let y : type_of (type_word b (attribute_place ed b s e)) ≡ 3 = rw type_word_same at z in
        ⊎_elim
        (λ q. absurd (let w = d.whole in let v : type_of (type_word b (attribute_place ed b seg el)) ≡ 3 = rw q at y in omega arith))
        (λ q. record {
          entry = rw (segment-same q, element-same q, (alike_file d.agree inside).values-at)
              (address_same d.agree (values_at ed b) value_bucket_count (values_behind d.agree inside) _ _ (t y).entry);
          hash = rw (type_word_same, segment-same q, element-same q, (alike_file d.agree inside).values-at, text_to_same d.agree (values_at ed b) value_bucket_count (values_behind d.agree inside))
              (t y).hash;
        })
        (apart s e r)

  -- ---- the attributes of a node
  module _ (p : ℕ) (l : attribute_place ed b seg el + 4 + 4 ≤ p) (reach : AttributesReach ed b p) where
    reached : (i : ℕ) → i < attribute_count b p → Resolves (attribute_size ed) b (attributes_at b) (attribute_segment b p) (attribute_element b p + i)
    reached i m = ⊎_elim (λ z. absurd (omega arith)) (λ k. range-each (attribute_size ed) b (attributes_at b) _ _ _ i k m) reach

    name-at-same : (i : ℕ) → i < attribute_count b p → attribute_name c (attribute_at ed c p i) ≡ attribute_name b (attribute_at ed b p i)
    unfolding attribute_at
    name-at-same i m = ap (attribute_name c) (attribute-at-same d.agree inside p l i) ∙ attribute-name-same _ _ (reached i m)

    type_at_same : (i : ℕ) → i < attribute_count b p → type_word c (attribute_at ed c p i) ≡ type_word b (attribute_at ed b p i)
    unfolding attribute_at
    type_at_same i m = ap (type_word c) (attribute-at-same d.agree inside p l i) ∙ type_word_same _ _ (reached i m)

    typed_at : (i : ℕ) → i < attribute_count b p → Typed b (attribute_at ed b p i) → Typed c (attribute_at ed b p i)
    unfolding attribute_at
    typed_at i m t = typed-same _ _ (reached i m) t

    text_kept : (i : ℕ) → i < attribute_count b p → TextRight ed b (attribute_at ed b p i) → TextRight ed c (attribute_at ed b p i)
    unfolding attribute_at
    text_kept i m t = text-right _ _ (reached i m) t

    attribute-rule : (i : ℕ) → i < attribute_count b p → AttributeRule ed b p i → AttributeRule ed c p i
    attribute-rule i m k =
        record {
          low = rw (name-at-same i m) k.low;
          high = rw (name-at-same i m, name-count-same d.agree inside) k.high;
          above = ⊎_elim inl (λ z. inr (rw (name-at-same i m, name-at-same (i - 1) (omega arith)) z)) k.above;
          typed = rw (attribute-at-same d.agree inside p l i) (typed_at i m k.typed);
          value = λ w. rw (type_at_same i m) (k.value (bears_back d.agree inside (rw (name-at-same i m) at w)));
        }

  node-rules : (s e : ℕ) → NodeRules ed b s e → NodeRules ed c s e
  node-rules s e k =
      let a = d.agree in
      let p = node_at ed b s e in
      let l = node-low a inside s e in
      record {
        node = node-rule a inside s e k.node;
        attributes = rw (node-at-same a inside s e) (reach-same a inside p l k.attributes);
        attribute = λ i m. let n : i < attribute_count b (node_at ed b s e) = rw (node-at-same a inside s e, attribute-count-same a inside (node_at ed b s e) l) at m in
            rw (node-at-same a inside s e) (attribute-rule p l k.attributes i n (k.attribute i n));
        text = λ i m. let n : i < attribute_count b (node_at ed b s e) = rw (node-at-same a inside s e, attribute-count-same a inside (node_at ed b s e) l) at m in
            rw (node-at-same a inside s e, attribute-at-same a inside (node_at ed b s e) l i) (text_kept p l k.attributes i n (k.text i n));
        children = rw (node-at-same a inside s e) (child-rule a inside p l k.children);
      }

  pub nodes-rules : NodesRules ed b → NodesRules ed c
  nodes-rules k =
      record {
        root = node-used d.agree inside 0 0 k.root;
        each = λ s e r. node-rules s e (k.each s e (node_back d.agree inside s e r));
      }

-- ---- writing a word as the value is such a change

module _ (ed : Edition) (b : List ℕ) (g : LaidOut ed b) (seg el : ℕ) (r : Resolves (attribute_size ed) b (attributes_at b) seg el) where
  pub value-fits : attribute_place ed b seg el + 4 + 4 ≤ length b
  value-fits = omega (arith, attribute-least ed, place-fits (attribute_size ed) b (attributes_at b) g.attributes seg el r)

  pub put_value : (w : ℕ) → w < 2 ^ 32 → value_word (splice b (attribute_place ed b seg el + 4) (le4 w)) (attribute_place ed b seg el) ≡ w
  unfolding value_word
  put_value w l = put_read b _ value-fits w l

  pub put_changed : (w : ℕ) → w < 2 ^ 32 → type_of (type_word b (attribute_place ed b seg el)) ≡ 1
      → (extended_of (type_word b (attribute_place ed b seg el)) ≡ 1 → w ≤ 1) → Changed ed b (splice b (attribute_place ed b seg el + 4) (le4 w)) seg el
  put_changed w l t f =
      record { agree = put_agree b _ value-fits w; used = r; whole = t; truth = λ z. rw (put_value w l) (f z) }
