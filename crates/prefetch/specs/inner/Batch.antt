-- What is found out about the attributes in the slots of a batch, step by step.
use Rattle.std.specs.Prelude.{ℕ, ◌+◌, ◌-◌, ◌*◌, ◌%◌, ◌≤◌, ◌≡◌, ◌⊎◌, List, length, get_or}
use Rattle.le.specs.Le.{u16_at}
use Rattle.words.specs.Words.{extended_of}
use Rattle.hash.specs.Fold.{value_hash}
use Rattle.text.specs.Text.{text_in}
use Rattle.layout.specs.Table.{Table}
use Rattle.layout.specs.declared.Edition.{Edition}
use Rattle.strings.specs.Texts.{spot_at}
use Rattle.strings.specs.Rules.{EntryAddress}
use Rattle.strings.specs.Texts.{At}
use Rattle.nodes.specs.Attribute.{type_word, text_segment, text_element}
use Rattle.nodes.specs.Rules.{TextRight}
use Rattle.prefetch.specs.inner.Slots.{Each}
use Rattle.prefetch.specs.declared.steps.SlotText.{SlotText}

-- The text of slot j.
abbrev pub text_of_slot : List SlotText → ℕ → SlotText
text_of_slot texts j = get_or texts j (record { at = 0; left = 0; seen = 0 })

-- The text of the attribute at q stands at x, with n characters left there.
pub record TextSpot (b : List ℕ) (r q x n : ℕ) : Type 0 where
  pub spot : spot_at b r (text_segment b q) (text_element b q) ≡ At x n

-- The same of each of the first n slots.
pub record AllSpots (b : List ℕ) (r : ℕ) (slots : List ℕ) (n : ℕ) (texts : List SlotText) : Type 0 where
  pub each : Each n (λ j. TextSpot b r (get_or slots j 0) (text_of_slot texts j).at (text_of_slot texts j).left)

-- At least one character is left at x, one stands before it, and all lie in the file.
pub record SpotFits (b : List ℕ) (x n : ℕ) : Type 0 where
  pub some : 1 ≤ n
  pub past : 2 ≤ x
  pub inside : x + 2 * n ≤ length b

-- The same of each of the first n.
pub record AllFit (b : List ℕ) (n : ℕ) (texts : List SlotText) : Type 0 where
  pub each : Each n (λ j. SpotFits b (text_of_slot texts j).at (text_of_slot texts j).left)

-- The texts stand where they stood, and as many characters are left there.
pub record Stay (before after : List SlotText) : Type 0 where
  pub long : length after ≡ 64
  pub at : (j : ℕ) → (text_of_slot after j).at ≡ (text_of_slot before j).at
  pub left : (j : ℕ) → (text_of_slot after j).left ≡ (text_of_slot before j).left

-- The low half of each of the first n is the character before its offset.
pub record AllSeen (b : List ℕ) (n : ℕ) (texts : List SlotText) : Type 0 where
  pub each : Each n (λ j. (text_of_slot texts j).seen % 65536 ≡ u16_at b ((text_of_slot texts j).at - 2))

-- A text can begin at x, which is element el of its segment: it is the first, or a 0 stands before it.
abbrev pub Behind : List ℕ → ℕ → ℕ → Type 0
Behind b x el = (el ≡ 0) ⊎ (u16_at b (x - 2) ≡ 0)

-- Each of the first n can begin where it does.
abbrev pub AllBehind : List ℕ → List ℕ → ℕ → List SlotText → Type 0
AllBehind b slots n texts = Each n (λ j. Behind b (text_of_slot texts j).at (text_element b (get_or slots j 0)))

-- The extended code of each is the value hash of its text.
abbrev pub AllHashed : List ℕ → List ℕ → ℕ → List SlotText → Type 0
AllHashed b slots n texts =
    Each n (λ j. extended_of (type_word b (get_or slots j 0)) ≡ value_hash (text_in b (text_of_slot texts j).at (text_of_slot texts j).left))

-- The text of each is at an entry's address.
abbrev pub AllFound : List ℕ → Table → List ℕ → ℕ → Type 0
AllFound b t slots n = Each n (λ j. EntryAddress t (text_segment b (get_or slots j 0)) (text_element b (get_or slots j 0)))

-- 19 holds of each.
abbrev pub AllRight : Edition → List ℕ → List ℕ → ℕ → Type 0
AllRight ed b slots n = Each n (λ j. TextRight ed b (get_or slots j 0))
