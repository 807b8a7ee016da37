-- What a batch leaves among the doubts.
use Rattle.std.specs.Prelude.{ℕ, ◌≡◌, List, get_or}
use Rattle.layout.specs.declared.Edition.{Edition}
use Rattle.nodes.specs.inner.Doubts.{Trusted}
use Rattle.prefetch.specs.inner.Slots.{Each}

-- No doubt is taken back.
pub record Kept (before after : List ℕ) : Type 0 where
  pub kept : (i : ℕ) → get_or after i 0 ≡ 0 → get_or before i 0 ≡ 0

-- 19 holds of the attributes in the first n slots, unless they are doubted.
pub record Examined (ed : Edition) (b slots : List ℕ) (n : ℕ) (before after : List ℕ) : Type 0 where
  pub each : Each n (λ j. Trusted ed b after (get_or slots j 0))
  pub kept : Kept before after
