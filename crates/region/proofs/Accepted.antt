-- Refusals 2 and 5 find nothing exactly when the region is laid. Assumes nothing.
use Prim.Native.Nat.{ℕ, ◌+◌, ◌*◌, ◌≤◌, ◌<◌}
use native.Mathlib.Omega.{arith}
use mathlib.Core.Path.{◌≡◌, ap, ◌∙◌}
use mathlib.Core.Logic.{◌↔◌}
use mathlib.Core.List.{List, [], ◌∷◌}
use lib.ListN.{length}
use Rattle.le.specs.Le.{u32_at}
use Rattle.verdict.specs.Checks.{Check, at_most, first_fault, each}
use Rattle.verdict.specs.Verdict.{Verdict, Accepted}
use Rattle.verdict.proofs.Laws.{Clean, pass, clean_inv, fault_none, each_inv, each_clean}
use Rattle.region.specs.Region.{count_of, start_of, full_of, used_of, end_of, Laid}
use Rattle.region.specs.Checks.{field, segment_checks, region_checks}
use Rattle.region.proofs.Laws.{start_next}

module _ (size : ℕ) (b : List ℕ) (r : ℕ) where
  -- what holds of one segment
  pub record Good (s : ℕ) : Type 0 where
    pub full : full_of size b r s ≤ 65535
    pub used : used_of size b r s ≤ full_of size b r s
    pub fits : start_of size b r s + 8 + full_of size b r s * size ≤ length b

  pub segment_good : (s : ℕ) → Clean (segment_checks size b r s) → Good s
  unfolding segment_checks
  segment_good s e =
      let x = clean_inv _ _ _ _ _ e in
      let y = clean_inv _ _ _ _ _ x.1 in
      let z = clean_inv _ _ _ _ _ y.1 in
      let u = clean_inv _ _ _ _ _ z.1 in
      let v = clean_inv _ _ _ _ _ u.1 in
      record { full = y.0; used = u.0; fits = v.0 }

  pub segment_clean : (s : ℕ) → Good s → Clean (segment_checks size b r s)
  unfolding segment_checks
  segment_clean s g =
      pass _ _ _ _ _ (omega (arith, g.fits)) ∙ pass _ _ _ _ _ g.full ∙ pass _ _ _ _ _ (omega (arith, g.fits))
      ∙ pass _ _ _ _ _ g.used ∙ pass _ _ _ _ _ g.fits ∙ fault_none

  accepted-laid : Clean (region_checks size b r) → Laid size b r
  unfolding region_checks
  accepted-laid e =
      let x = clean_inv _ _ _ _ _ e in
      let y = clean_inv _ _ _ _ _ x.1 in
      let g : (s : ℕ) → s < count_of b r → Good s = λ s h. segment_good s (each_inv _ _ _ y.1 s (omega arith) (omega arith)) in
      record { head = x.0; few = y.0; full = λ s h. (g s h).full; used = λ s h. (g s h).used; fits = λ s h. (g s h).fits }

  laid-accepted : Laid size b r → Clean (region_checks size b r)
  unfolding region_checks
  laid-accepted g =
      pass _ _ _ _ _ g.head ∙ pass _ _ _ _ _ g.few
      ∙ each_clean _ _ _
      (λ s l h. let k : s < count_of b r = omega arith in segment_clean s (record { full = g.full s k; used = g.used s k; fits = g.fits s k }))

  pub laid_iff : first_fault (region_checks size b r) ≡ Accepted ↔ Laid size b r
  laid_iff = (accepted-laid, laid-accepted)

-- the checks of the segment that starts at p
abbrev pub head_checks : ℕ → List ℕ → ℕ → List Check
head_checks size b p =
    field b p 4
    ∷ at_most 5 p (u32_at b p) 65535
    ∷ field b (p + 4) 4
    ∷ at_most 5 (p + 4) (u32_at b (p + 4)) (u32_at b p)
    ∷ field b (p + 8) (u32_at b p * size)
    ∷ []

module _ (size : ℕ) (b : List ℕ) (r : ℕ) where
  pub segment-told : (s p : ℕ) → p ≡ start_of size b r s → {v : Verdict} → first_fault (head_checks size b p) ≡ v → first_fault (segment_checks size b r s) ≡ v
  unfolding segment_checks full_of used_of
  segment-told s p h q = rw h at q

  pub segment_in : (s : ℕ) → Clean (segment_checks size b r s) → start_of size b r (s + 1) ≤ length b
  segment_in s e = omega (arith, start_next size b r s, (segment_good size b r s e).fits)

  -- behind the segment count all segments are left
  pub region_open : (n : ℕ) → n ≡ u32_at b r → r + 4 ≤ length b → n ≤ 65535
      → first_fault (region_checks size b r) ≡ first_fault (each (segment_checks size b r) n 0)
  unfolding region_checks count_of
  region_open n q h l = rw q (pass _ _ _ _ _ h ∙ pass _ _ _ _ _ (omega arith))

  pub region_end : (s p : ℕ) → s ≡ u32_at b r → p ≡ start_of size b r s → p ≡ end_of size b r
  unfolding end_of count_of
  region_end s p h q = q ∙ ap (start_of size b r) h
