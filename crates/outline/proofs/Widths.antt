-- How long what is written can be: texts, values, attributes and lines. Assumes nothing.
use mathlib.Core.Path.{◌≡◌, refl, sym, ap}
use mathlib.Core.Logic.{⊎_elim, by_cases}
use mathlib.Core.Bool.{Bool, true, false, cond}
use mathlib.Core.List.{List, [], ◌∷◌, ◌++◌}
use Prim.Native.Nat.{ℕ, zero, suc, ◌+◌, ◌*◌, ◌/◌, ◌%◌, ◌^◌, ◌≤◌, ◌<◌}
use native.Mathlib.Nat.{add-zero, zero-add, suc-mul, mul-le-mul_right, le_trans}
use native.Mathlib.Decide.{ℕ_discrete}
use native.Mathlib.Omega.{arith}
use lib.Dec.{ltb}
use lib.IntN.{ℤ, pos, negsuc}
use lib.ListN.{length, length-append, length-replicate}
use Rattle.le.specs.declared.Float32.{Float32}
use Rattle.words.specs.Words.{type_of, extended_of}
use Rattle.region.specs.Region.{Resolves, Laid, place_of}
use Rattle.text.specs.Text.{text_at, room_at}
use Rattle.text.proofs.Laws.{text_length_le}
use Rattle.layout.specs.Table.{Table, listed_segment, listed_element}
use Rattle.layout.specs.Layout.{values, names}
use Rattle.layout.specs.declared.Edition.{Edition}
use Rattle.strings.specs.Texts.{text_to, listed_text}
use Rattle.strings.proofs.Accepted.{strings_iff}
use Rattle.keys.specs.Names.{name_count, name_text}
use Rattle.keys.proofs.Only.{position_resolves}
use Rattle.nodes.specs.Node.{node_name, Live, attribute_count, node_at, attribute_at}
use Rattle.nodes.specs.Attribute.{attribute_name, value_of, Typed, type_word, value_word, text_segment, text_element}
use Rattle.strings.specs.Rules.{EntryAddress}
use Rattle.nodes.specs.Rules.{TextRule, TextRight, AttributeRule, NodeRules}
use Rattle.nodes.specs.declared.value.Value.TheVariants.{Whole, Truth, Float, Text}
use Rattle.nodes.proofs.Values.{value-whole, value_truth, value_float, value-text}
use Rattle.tree.specs.Chain.{ranged, deepest_level}
use Rattle.print.specs.Text.{hex_of, plain, escape, escaped, decimal_in, decimal, whole_text}
use Rattle.accept.specs.Rules.{FileRules}
use Rattle.outline.specs.Outline.{truth_text, value_text, attribute_text, line}

-- ---- characters and numbers

hex_long : (n x : ℕ) → length (hex_of n x) ≡ n
unfolding hex_of
hex_long zero x = refl
hex_long (suc n) x = ap suc (hex_long n x)

escape-short : (c : ℕ) → length (escape c) ≤ 5
unfolding escape
escape-short c = go (plain c)
  where
    go : (x : Bool) → length (cond x (c ∷ []) (0x5c ∷ hex_of 4 c)) ≤ 5
    go true = omega arith
    go false = omega (arith, hex_long 4 c)

escaped-short : (s : List ℕ) → length (escaped s) ≤ 5 * length s
unfolding escaped
escaped-short [] = omega arith
escaped-short (c ∷ s) = rw length-append (omega (arith, escape-short c, escaped-short s))

decimal_in_short : (n x : ℕ) → length (decimal_in n x) ≤ n
unfolding decimal_in
decimal_in_short zero x = omega arith
decimal_in_short (suc n) x = go (ltb x 10) (decimal_in_short n (x / 10))
  where
    go : (y : Bool) → length (decimal_in n (x / 10)) ≤ n → length (cond y ((48 + x) ∷ []) (decimal_in n (x / 10) ++ ((48 + x % 10) ∷ []))) ≤ suc n
    go true h = omega arith
    go false h = rw length-append (omega arith)

whole-short : (z : ℤ) → length (whole_text z) ≤ 21
unfolding whole_text decimal
whole-short (pos n) = omega (arith, decimal_in_short 20 n)
whole-short (negsuc n) = omega (arith, decimal_in_short 20 (n + 1))

-- ---- texts

-- a text at an address that resolves lies in a used part
text-short : (t : Table) (seg el : ℕ) → Laid 2 t.bytes t.at → Resolves 2 t.bytes t.at seg el → length (text_to t seg el) ≤ 65535
unfolding text_to text_at room_at
text-short t seg el g h =
    omega (arith, text_length_le t.bytes (place_of 2 t.bytes t.at seg el) (room_at t.bytes t.at seg el), g.used seg h.seg_in, g.full seg h.seg_in)

module _ (ed : Edition) (b : List ℕ) (r : FileRules ed b) where
  -- a name has at most 65,535 characters
  name-short : (i : ℕ) → 1 ≤ i → i ≤ name_count ed b → length (name_text ed b i) ≤ 65535
  unfolding name_count name_text listed_text
  name-short i l h =
      text-short (names ed b) (listed_segment (names ed b) i) (listed_element (names ed b) i) r.laid.names.characters
      (position_resolves (names ed b) ((strings_iff (names ed b)).1 r.name-table) i l (omega arith))

  -- and so has the text of a value
  value-text-short : (seg el : ℕ) → EntryAddress (values ed b) seg el → length (text_to (values ed b) seg el) ≤ 65535
  value-text-short seg el h =
      text-short (values ed b) seg el r.laid.values.characters
      (rw (sym h.2.2.0, sym h.2.2.1) (r.value-table.entry h.0 h.2.0 h.1 h.2.1).resolved)

  -- ---- values, attributes, lines

  truth_short : (x : Bool) → length (value_text ed b (Truth x)) ≤ 327677
  unfolding value_text truth_text
  truth_short true = omega arith
  truth_short false = omega arith

  whole-value : (z : ℤ) → length (value_text ed b (Whole z)) ≤ 327677
  unfolding value_text
  whole-value z = omega (arith, whole-short z)

  float_value : (f : Float32) → length (value_text ed b (Float f)) ≤ 327677
  unfolding value_text
  float_value f = omega (arith, hex_long 8 f.bits)

  text-value : (q : ℕ) → TextRule ed b q → length (value_text ed b (Text (text_segment b q) (text_element b q))) ≤ 327677
  unfolding value_text
  text-value q h = omega (arith, escaped-short (text_to (values ed b) (text_segment b q) (text_element b q)), value-text-short _ _ h.entry)

  value-short : (q : ℕ) → Typed b q → TextRight ed b q → length (value_text ed b (value_of b q)) ≤ 327677
  unfolding Typed
  value-short q t x =
      let w = type_word b q in
      by_cases (ℕ_discrete (type_of w) 1)
      (λ one. by_cases (ℕ_discrete (extended_of w) 0)
      (λ e. rw (sym (value-whole b q w (type_of w) refl refl one (extended_of w) refl (value_word b q) refl e)) (whole-value _))
      (λ e. rw (sym (value_truth b q w (type_of w) refl refl one (extended_of w) refl (value_word b q) refl e)) (truth_short _)))
      (λ more. by_cases (ℕ_discrete (type_of w) 2)
      (λ two. rw (sym (value_float b q w (type_of w) refl refl more two (value_word b q) refl)) (float_value _))
      (λ three. rw (sym (value-text b q w (type_of w) refl refl more three (text_segment b q) (text_element b q) refl refl))
      (text-value q (x (⊎_elim (λ k. absurd (more k.0)) (⊎_elim (λ k. absurd (three k.0)) (λ k. k)) t)))))

  attribute-short : (p i : ℕ) → AttributeRule ed b p i → TextRight ed b (attribute_at ed b p i) → length (attribute_text ed b (attribute_at ed b p i)) ≤ 655354
  unfolding attribute_text
  attribute-short p i h x =
      let q = attribute_at ed b p i in
      rw length-append
      (omega (arith, escaped-short (name_text ed b (attribute_name b q)), name-short (attribute_name b q) h.low h.high, value-short q h.typed x))

-- n that are at most m long each are at most n * m long
ranged-short : (f : ℕ → List ℕ) (a n m : ℕ) → ((j : ℕ) → j < n → length (f (a + j)) ≤ m) → length (ranged f a n) ≤ n * m
unfolding ranged
ranged-short f a zero m h = omega arith
ranged-short f a (suc n) m h =
    let p : length (f a) ≤ m = rw add-zero at (h 0 (omega arith)) in
    let q = ranged-short f (a + 1) n m (λ j l. let e : a + 1 + j ≡ a + suc j = omega arith in rw e (h (suc j) (omega arith))) in
    rw length-append (omega (arith, suc-mul n m))

module _ (ed : Edition) (b : List ℕ) (r : FileRules ed b) (seg el : ℕ) (h : NodeRules ed b seg el) where
  -- a node has at most 65,535 attributes
  few-attributes : attribute_count b (node_at ed b seg el) ≤ 65535
  few-attributes =
      ⊎_elim
      (λ z. omega arith)
      (λ g. omega (arith, g.els_in, r.laid.attributes.used _ g.seg_in, r.laid.attributes.full _ g.seg_in))
      h.attributes

  attributes-short : length (ranged (λ i. attribute_text ed b (attribute_at ed b (node_at ed b seg el) i)) 0 (attribute_count b (node_at ed b seg el))) ≤ 65535 * 655354
  attributes-short =
      le_trans
      (ranged-short (λ i. attribute_text ed b (attribute_at ed b (node_at ed b seg el) i)) 0 (attribute_count b (node_at ed b seg el)) 655354
      (λ j l. rw zero-add (attribute-short ed b r (node_at ed b seg el) j (h.attribute j l) (h.text j l))))
      (mul-le-mul_right 655354 few-attributes)

  -- the line of a live node at most 63 levels below the root is shorter than 2 ^ 36
  pub line-short : (level : ℕ) → level ≤ deepest_level → Live b (node_at ed b seg el) → length (line ed b level (node_at ed b seg el)) ≤ 2 ^ 36
  unfolding line
  line-short level l live =
      let p = node_at ed b seg el in
      let n = name-short ed b r (node_name b p) (omega arith) h.node.name in
      simp length-append
      (omega (arith, length-replicate {A = ℕ} (2 * level) 0x20, escaped-short (name_text ed b (node_name b p)), n, attributes-short))
