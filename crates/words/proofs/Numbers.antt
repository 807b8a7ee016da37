-- The types of attributes by their numbers. Assumes nothing.
use Prim.Native.Nat.{◌<◌}
use native.Mathlib.Omega.{arith}
use mathlib.Core.Path.{◌≡◌, refl, ap, sym, ◌∙◌}
use mathlib.Core.Bool.{Bool, true, false, not, true≢false}
use borrow.Author.Tests.{eq-eqb}
use lib.Dec.{eqb, leb}
use denote.Enum.Declared.{tag_of}
use denote.Enum.Bare.{sameb, differs_false}
use Rattle.words.specs.contracts.AttributeType.{the_type}
use Rattle.words.specs.declared.AttributeType.{AttributeType}
use Rattle.words.specs.declared.AttributeType.TheVariants.{None, Whole, Float, Text}
use Rattle.words.specs.Words.{type_number}

-- the numbers are those that the variants have
pub tag-number : (k : AttributeType) → tag_of the_type k ≡ type_number k
tag-number None = refl
tag-number Whole = refl
tag-number Float = refl
tag-number Text = refl

pub number-small : (k : AttributeType) → type_number k < 4
number-small None = omega arith
number-small Whole = omega arith
number-small Float = omega arith
number-small Text = omega arith

-- two types are the same where their numbers are
pub same-number : (k t : AttributeType) → sameb the_type k t ≡ eqb (type_number k) (type_number t)
same-number k t = rw (tag-number k, tag-number t) refl

-- what `!=` tells of two
module _ (k t : AttributeType) {r : Bool} (e : r ≡ not (sameb the_type k t)) where
  pub differ : r ≡ true → type_number k ≡ type_number t → ⊥
  differ w h = true≢false (sym w ∙ e ∙ ap not (same-number k t ∙ eq-eqb _ _ h))

  pub alike : r ≡ false → type_number k ≡ type_number t
  alike w = ap type_number (differs_false the_type tt k t (sym e ∙ w))

-- and of one and the type 0
pub some-type : (k : AttributeType) → leb 1 (type_number k) ≡ not (sameb the_type k None)
some-type None = refl
some-type Whole = refl
some-type Float = refl
some-type Text = refl
