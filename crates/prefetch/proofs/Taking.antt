-- What the slots of a batch being right tells of a row of attributes. Assumes nothing.
use Prim.Native.Nat.{ℕ, ◌+◌, ◌*◌, ◌≤◌, ◌<◌}
use mathlib.Core.Path.{◌≡◌, subst}
use mathlib.Core.Logic.{⊎_elim}
use mathlib.Core.List.{List}
use lib.ListN.{get_or}
use Rattle.laws.proofs.Order.{le_or_lt}
use Rattle.layout.specs.Edition.{attribute_size}
use Rattle.layout.specs.declared.Edition.{Edition}
use Rattle.nodes.specs.Rules.{TextRight}
use Rattle.nodes.specs.inner.Doubts.{doubt_of, Trusted}
use Rattle.prefetch.specs.inner.Slots.{Each, Slotted}

-- the texts that were passed are trusted where those in the slots are
pub passed_trusted : (ed : Edition) (b d : List ℕ) (first el e n : ℕ) (slots : List ℕ) → Slotted ed b first el e n slots → Each n (λ j. Trusted ed b d (get_or slots j 0))
    → ((i : ℕ) → i < el → Trusted ed b d (first + i * attribute_size ed)) → (i : ℕ) → i < e → Trusted ed b d (first + i * attribute_size ed)
passed_trusted ed b d first el e n slots s r h i l = record { right = λ z t. ⊎_elim (λ g. later g z t) (λ g. (h i g).right z t) (le_or_lt el i) }
  where
    later : el ≤ i → get_or d (doubt_of (first + i * attribute_size ed)) 0 ≡ 0 → TextRight ed b (first + i * attribute_size ed)
    later g z u = let w = s.all i g l u in (subst (Trusted ed b d) w.2 (r w.0 w.1)).right z u
