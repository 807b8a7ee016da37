-- Texts and values by the steps in which the code puts them. Assumes nothing.
use Prim.Native.Nat.{ℕ, ◌+◌, ◌-◌, ◌*◌, ◌≤◌, ◌<◌}
use native.Mathlib.Nat.{add-zero, sub-zero}
use native.Mathlib.Omega.{arith}
use mathlib.Core.Path.{◌≡◌, ap, sym, ◌∙◌}
use mathlib.Core.Bool.{Bool, true, false}
use mathlib.Core.List.{List, [], ◌∷◌, ◌++◌}
use lib.IntN.{ℤ}
use lib.ListN.{length, replicate}
use Rattle.le.specs.Le.{u16_at}
use Rattle.le.specs.declared.Float32.{Float32}
use Rattle.text.specs.Text.{text_in}
use Rattle.text.proofs.Laws.{text-none, text_more, text_stop}
use Rattle.layout.specs.Layout.{values}
use Rattle.layout.specs.declared.Edition.{Edition}
use Rattle.strings.specs.Texts.{text_to}
use Rattle.keys.specs.Names.{name_count, name_text}
use Rattle.nodes.specs.Node.{node_name, attribute_count, attribute_at}
use Rattle.nodes.specs.Attribute.{attribute_name, value_of}
use Rattle.nodes.specs.declared.value.Value.{Value}
use Rattle.nodes.specs.declared.value.Value.TheVariants.{Whole, Truth, Float, Text}
use Rattle.tree.specs.Chain.{ranged}
use Rattle.tree.proofs.Ranged.{ranged-none, ranged_open}
use Rattle.print.specs.inner.Put.{Put}
use Rattle.print.specs.Text.{escape, escaped, whole_text, hex_of}
use Rattle.print.proofs.Puts.{top, put_then, put_same, length_put}
use Rattle.outline.specs.Outline.{truth_text, value_text, attribute_text, line}
use Rattle.outline.specs.inner.Ready.{AttributeReady, NodeReady}

-- ---- a text, character by character

module _ (b : List ℕ) (q n : ℕ) where
  -- what is left of it from character i on
  abbrev pub text_from : ℕ → List ℕ
  text_from i = escaped (text_in b (q + 2 * i) (n - i))

  pub text-start : text_from 0 ≡ escaped (text_in b q n)
  text-start = let e : q + 2 * 0 ≡ q = omega arith in rw (e, sub-zero)

  module _ (i : ℕ) where
    pub text_next : {c : ℕ} → c ≡ u16_at b (q + 2 * i) → i < n → (c ≡ 0 → ⊥) → escape c ++ text_from (i + 1) ≡ text_from i
    unfolding escaped
    text_next e h f =
        let z : q + 2 * i + 2 ≡ q + 2 * (i + 1) = omega arith in
        sym
        (ap escaped (text_more b (q + 2 * i) (n - i) (n - (i + 1)) (omega arith) (λ y. f (e ∙ y)))
        ∙ rw (← e, z))

    pub text-zero : {c : ℕ} → c ≡ u16_at b (q + 2 * i) → c ≡ 0 → text_from i ≡ []
    unfolding escaped
    text-zero e z = ap escaped (text_stop b (q + 2 * i) (n - i) (sym e ∙ z))

    pub text-past : n ≤ i → text_from i ≡ []
    unfolding escaped
    text-past h = ap escaped (text-none b (q + 2 * i) (n - i) (omega arith))

-- ---- runs in a row, one after the other

module _ (f : ℕ → List ℕ) (a n : ℕ) where
  -- what is left of n of them from place j on
  abbrev pub ranged_from : ℕ → List ℕ
  ranged_from j = ranged f (a + j) (n - j)

  pub ranged_start : ranged_from 0 ≡ ranged f a n
  ranged_start = rw (add-zero, sub-zero)

  pub ranged_next : (j : ℕ) → j < n → f (a + j) ++ ranged_from (j + 1) ≡ ranged_from j
  ranged_next j h =
      let e : a + j + 1 ≡ a + (j + 1) = omega arith in
      sym (ranged_open f (a + j) (n - j) (n - (j + 1)) (omega arith) ∙ ap (λ (x : ℕ). f (a + j) ++ ranged f x (n - (j + 1))) e)

  pub ranged-past : (j : ℕ) → n ≤ j → ranged_from j ≡ []
  ranged-past j h = ranged-none f (a + j) (n - j) (omega arith)

-- two runs, one after the other
pub put_two : {d e f : List ℕ} {i p q : ℕ} {s t w : List ℕ} → length d ≤ top → Put d i s p e → Put e p t q f → s ++ t ≡ w → Put d i w q f
put_two l a b e = put_same e (put_then l a b)

-- four
pub put_four : {d e f g h : List ℕ} {i p q r z : ℕ} {s t u v w : List ℕ} → length d ≤ top → Put d i s p e → Put e p t q f → Put f q u r g → Put g r v z h
    → s ++ (t ++ (u ++ v)) ≡ w → Put d i w z h
put_four l a b c k e =
    let x = length_put a in
    let y = length_put b in
    put_same e (put_then l a (put_then (omega arith) b (put_then (omega arith) c k)))

-- ---- values

module _ (ed : Edition) (b : List ℕ) {v w : Value} (e : v ≡ w) where
  pub whole_is : {y z : ℤ} → v ≡ Whole z → y ≡ z → (0x69 ∷ 0x3a ∷ []) ++ whole_text y ≡ value_text ed b w
  unfolding value_text
  whole_is h q = ap (λ (x : ℤ). 0x69 ∷ 0x3a ∷ whole_text x) q ∙ sym (ap (value_text ed b) (sym e ∙ h))

  pub truth_is : {t : Bool} → v ≡ Truth t → truth_text t ≡ value_text ed b w
  unfolding value_text
  truth_is h = sym (ap (value_text ed b) (sym e ∙ h))

  pub float_is : {f : Float32} → v ≡ Float f → (0x66 ∷ 0x3a ∷ []) ++ hex_of 8 f.bits ≡ value_text ed b w
  unfolding value_text
  float_is h = sym (ap (value_text ed b) (sym e ∙ h))

  pub text_is : {seg el : ℕ} {s : List ℕ} → v ≡ Text seg el → s ≡ text_to (values ed b) seg el → (0x73 ∷ 0x3a ∷ []) ++ escaped s ≡ value_text ed b w
  unfolding value_text
  text_is h q = ap (λ (x : List ℕ). 0x73 ∷ 0x3a ∷ escaped x) q ∙ sym (ap (value_text ed b) (sym e ∙ h))

pub true_is : (t : Bool) → t ≡ true → 0x62 ∷ 0x3a ∷ 0x74 ∷ 0x72 ∷ 0x75 ∷ 0x65 ∷ [] ≡ truth_text t
unfolding truth_text
true_is t h = rw h

pub false_is : (t : Bool) → t ≡ false → 0x62 ∷ 0x3a ∷ 0x66 ∷ 0x61 ∷ 0x6c ∷ 0x73 ∷ 0x65 ∷ [] ≡ truth_text t
unfolding truth_text
false_is t h = rw h

-- ---- attributes and lines, with the name index as it is read

module _ (ed : Edition) (b : List ℕ) (q : ℕ) {i : ℕ} (e : i ≡ attribute_name b q) where
  pub attribute_is : (0x20 ∷ []) ++ (escaped (name_text ed b i) ++ ((0x3d ∷ []) ++ value_text ed b (value_of b q))) ≡ attribute_text ed b q
  unfolding attribute_text
  attribute_is = rw e

  pub attribute-named : AttributeReady ed b q → (1 ≤ i) × (i ≤ name_count ed b)
  attribute-named r = (omega (arith, r.low), omega (arith, r.high))

module _ (ed : Edition) (b : List ℕ) (q : ℕ) {i : ℕ} (e : i ≡ node_name b q) where
  pub line_is : (level : ℕ)
      → replicate (2 * level) 0x20 ++ (escaped (name_text ed b i) ++ (ranged (λ k. attribute_text ed b (attribute_at ed b q k)) 0 (attribute_count b q) ++ (0x0a ∷ []))) ≡ line ed b level q
  unfolding line
  line_is level = rw e

  pub node-named : NodeReady ed b q → (1 ≤ i) × (i ≤ name_count ed b)
  node-named r = (low i (λ z. r.live (sym e ∙ z)), omega (arith, r.name))
    where
      low : (n : ℕ) → (n ≡ 0 → ⊥) → 1 ≤ n
      low n f = omega arith
