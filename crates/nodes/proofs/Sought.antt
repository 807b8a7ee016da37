-- What looking for a range tells: its n elements are the m that a rule counts. Assumes nothing.
use Prim.Native.Nat.{ℕ, ◌+◌, ◌*◌, ◌≤◌}
use native.Mathlib.Omega.{arith}
use mathlib.Core.Path.{◌≡◌, sym, subst, ◌∙◌}
use mathlib.Core.Logic.{inr, ⊎_elim}
use mathlib.Core.List.{List}
use lib.ListN.{length}
use Rattle.std.specs.Prelude.{Option, Some, None}
use Rattle.region.specs.declared.Region.{Region}
use Rattle.region.specs.Region.{Laid, Ranges, Reaches, range_at, place_of}
use Rattle.region.specs.inner.Samples.{Mapped, Starts}
use Rattle.region.proofs.Laws.{range-fits, range_at_in, range-at-out}
use Rattle.layout.proofs.Seen.{own_mapped}

-- what the code that looks asks: the region and its samples, said of the offset that the region holds
pub lent : {size : ℕ} {b : List ℕ} {at : ℕ} {r : Region} {xs : List ℕ} → Mapped size b at r → Starts size b at r.shift xs
    → Mapped size b r.at r × Starts size b r.at r.shift xs
lent {size} {b} {at} {r} {xs} m s = (own_mapped m, subst (λ (a : ℕ). Starts size b a r.shift xs) (sym m.at_is) s)

module _ (size : ℕ) (b : List ℕ) (r seg el n m : ℕ) (c : n ≡ m) (p : Option ℕ) (f : p ≡ range_at size b r seg el n) where
  pub sought_out : (n ≡ 0 → ⊥) → p ≡ None → Reaches size b r seg el m → ⊥
  sought_out d e w = ⊎_elim (λ z. d (c ∙ z)) (λ h. range-at-out size b r seg el n (sym f ∙ e) (subst (Ranges size b r seg el) (sym c) h)) w

  module _ (q : ℕ) (e : p ≡ Some q) where
    found : Ranges size b r seg el n × (q ≡ place_of size b r seg el)
    found = range_at_in size b r seg el n (sym f ∙ e)

    pub sought_range : Ranges size b r seg el n
    sought_range = found.0

    pub sought_in : Reaches size b r seg el m
    sought_in = inr (subst (Ranges size b r seg el) c found.0)

    pub sought_at : q ≡ place_of size b r seg el
    sought_at = found.1

    pub sought_fits : Laid size b r → q + n * size ≤ length b
    sought_fits g = omega (arith, found.1, range-fits size b r g seg el n found.0)
