-- How the texts of a batch are filled in, slot by slot. Assumes nothing.
use Prim.Native.Nat.{ℕ, ◌+◌, ◌<◌}
use native.Mathlib.Omega.{arith}
use mathlib.Core.Path.{◌≡◌, sym}
use mathlib.Core.List.{List}
use lib.ListN.{length, get_or, set}
use Rattle.strings.proofs.Filling.{fill_any}
use Rattle.prefetch.specs.declared.steps.SlotText.{SlotText}
use Rattle.prefetch.specs.inner.Batch.{TextSpot, SpotFits, AllSpots, AllFit, Stay}

pub spots_more : {b : List ℕ} {r : ℕ} {slots : List ℕ} {texts : List SlotText} {j q : ℕ} (x : SlotText) → length texts ≡ 64 → j < 64 → AllSpots b r slots j texts
    → q ≡ get_or slots j 0 → TextSpot b r q x.at x.left → AllSpots b r slots (j + 1) (set texts j x)
spots_more {b} {r} {slots} {texts} {j} {q} x e l a g s = record {
  each =
      fill_any _ (λ (i : ℕ) (y : SlotText). TextSpot b r (get_or slots i 0) y.at y.left) texts j x (omega (arith, e, l)) a.each (rw (sym g) s);
}

pub fit_more : {b : List ℕ} {texts : List SlotText} {j : ℕ} (x : SlotText) → length texts ≡ 64 → j < 64 → AllFit b j texts → SpotFits b x.at x.left
    → AllFit b (j + 1) (set texts j x)
fit_more {b} {texts} {j} x e l a s = record {
  each = fill_any _ (λ (i : ℕ) (y : SlotText). SpotFits b y.at y.left) texts j x (omega (arith, e, l)) a.each s;
}

-- what holds of texts that stay
pub spots_still : {before after : List SlotText} → Stay before after → {b : List ℕ} {r : ℕ} {slots : List ℕ} {n : ℕ} → AllSpots b r slots n before → AllSpots b r slots n after
spots_still s a = record { each = λ j l. rw (s.at j, s.left j) (a.each j l) }
