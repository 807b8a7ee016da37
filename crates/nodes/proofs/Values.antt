-- The value read out of an attribute. Assumes nothing.
use Prim.Native.Nat.{ℕ, suc, ◌-◌, ◌^◌}
use native.Mathlib.Omega.{arith}
use mathlib.Core.Path.{◌≡◌, refl, sym, ap}
use mathlib.Core.List.{List}
use borrow.Author.Tests.{eq-eqb, ne_eqb}
use lib.Dec.{eqb, ltb}
use mathlib.Core.Bool.{cond, true, false}
use lib.IntN.{pos, negsuc}
use mir.Syntax.{w32}
use mir.Val.{to_z}
use Rattle.le.specs.Floats.{single_of}
use Rattle.words.specs.Words.{type_of, extended_of}
use Rattle.nodes.specs.Attribute.{type_word, value_word, text_segment, text_element, signed_of, value_of}
use Rattle.nodes.specs.declared.value.Value.TheVariants.{Whole, Truth, Float, Text}
use Rattle.nodes.proofs.Types.{kind_is, extended_is}

-- ---- a word as a signed number

pub signed_is : (w : ℕ) → to_z w32 w ≡ signed_of w
unfolding signed_of
signed_is w =
    let e : 2 ^ 32 - suc w ≡ 0xffff_ffff - w = omega arith in
    elim (ltb w 0x8000_0000) as (λ t. cond t (pos w) (negsuc (2 ^ 32 - suc w)) ≡ cond t (pos w) (negsuc (0xffff_ffff - w))) [ true ↦ refl | false ↦ ap negsuc e ]

-- ---- the value, by type and extended code

module _ (b : List ℕ) (q w k : ℕ) (e : w ≡ type_word b q) (f : k ≡ type_of w) where
  module _ (l : k ≡ 1) (x : ℕ) (g : x ≡ extended_of w) (v : ℕ) (p : v ≡ value_word b q) where
    pub value-whole : x ≡ 0 → Whole (signed_of v) ≡ value_of b q
    unfolding value_of
    value-whole z =
        sym (rw (kind_is b q w e k f, extended_is b q w e x g, ← p, eq-eqb k 1 l, eq-eqb x 0 z))

    pub value_truth : (x ≡ 0 → ⊥) → Truth (eqb v 1) ≡ value_of b q
    unfolding value_of
    value_truth z =
        sym (rw (kind_is b q w e k f, extended_is b q w e x g, ← p, eq-eqb k 1 l, ne_eqb x 0 z))

  module _ (l : k ≡ 1 → ⊥) where
    pub value_float : k ≡ 2 → (v : ℕ) → v ≡ value_word b q → Float (single_of v) ≡ value_of b q
    unfolding value_of
    value_float m v p = sym (rw (kind_is b q w e k f, ← p, ne_eqb k 1 l, eq-eqb k 2 m))

    pub value-text : (k ≡ 2 → ⊥) → (s t : ℕ) → s ≡ text_segment b q → t ≡ text_element b q → Text s t ≡ value_of b q
    unfolding value_of
    value-text m s t p r = sym (rw (kind_is b q w e k f, ne_eqb k 1 l, ne_eqb k 2 m, ← p, ← r))
