-- The slots of a batch: where some text attributes stand.
use Rattle.std.specs.Prelude.{ℕ, ◌+◌, ◌*◌, ◌≤◌, ◌<◌, ◌≡◌, List, length, get_or}
use Rattle.verdict.specs.Checks.{SomeBelow}
use Rattle.words.specs.Words.{type_of}
use Rattle.layout.specs.Edition.{attribute_size}
use Rattle.layout.specs.declared.Edition.{Edition}
use Rattle.nodes.specs.Attribute.{type_word}
use Rattle.prefetch.specs.declared.slots.Taken.{Taken}

-- Something holds of each below n.
abbrev pub Each : ℕ → (ℕ → Type 0) → Type 0
Each n P = (j : ℕ) → j < n → P j

-- An attribute of the file stands at each of the first n slots.
abbrev pub SlotsIn : Edition → List ℕ → List ℕ → ℕ → Type 0
SlotsIn ed b slots n = Each n (λ j. get_or slots j 0 + attribute_size ed ≤ length b)

-- Of the elements from el to e of a row of attributes that starts at `first`, all that are texts stand in the first n slots.
pub record Slotted (ed : Edition) (b : List ℕ) (first el e n : ℕ) (slots : List ℕ) : Type 0 where
  pub long : length slots ≡ 64
  pub few : n ≤ 64
  pub from : el + n ≤ e
  pub within : SlotsIn ed b slots n
  pub all : (i : ℕ) → el ≤ i → i < e → type_of (type_word b (first + i * attribute_size ed)) ≡ 3 → SomeBelow n (λ j. get_or slots j 0 ≡ first + i * attribute_size ed)

-- What was taken from element el of a row of `used` on: at least one element was passed, and the texts of those that were are in the slots.
pub record TakenFrom (ed : Edition) (b : List ℕ) (first el used : ℕ) (r : Taken) (slots : List ℕ) : Type 0 where
  pub slotted : Slotted ed b first el r.next r.count slots
  pub on : el < used → el < r.next
  pub upto : r.next ≤ used
