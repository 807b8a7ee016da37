-- What is read ahead of an entry (specs/inner/Ahead.antt), and what it tells of the entry's text. Assumes nothing.
use Prim.Native.Nat.{ℕ, ◌+◌, ◌-◌, ◌%◌, ◌<◌}
use native.Mathlib.Omega.{arith}
use mathlib.Core.Path.{◌≡◌, refl, sym, subst, ◌∙◌}
use mathlib.Core.List.{List}
use lib.ListN.{length, get_or, set}
use Rattle.std.specs.Prelude.{Option, Some, None}
use Rattle.region.specs.Region.{Laid}
use Rattle.layout.specs.Table.{Table, entries, segment_of, element_of}
use Rattle.strings.specs.Texts.{text_spot}
use Rattle.strings.specs.Rules.{Resolved}
use Rattle.strings.specs.inner.Ahead.{Prefetched, Stood, SeenBefore, ReadAhead, Ahead}
use Rattle.strings.specs.declared.spot.Spot.{Spot}
use Rattle.strings.proofs.Filling.{fill_any}
use Rattle.strings.proofs.Spots.{Spotted, spot-text, spot_out}

module _ (t : Table) (k j : ℕ) {r : Option Spot} (g : r ≡ text_spot t k j) where
  pub stands_nowhere : r ≡ None → Resolved t k j → ⊥
  stands_nowhere e = spot_out _ _ _ _ (sym g ∙ e)

  pub stands_spot : Laid 2 t.bytes t.at → {x : Spot} → r ≡ Some x → Spotted t (segment_of t k j) (element_of t k j) x.at x.left
  stands_spot laid e = spot-text t _ _ laid (sym g ∙ e)

-- one more place is filled
pub stood_more : {t : Table} {k j i : ℕ} {spots : List (Option Spot)} → Stood t k j i spots → i < length spots → {r : Option Spot} → r ≡ text_spot t k (j + i)
    → Stood t k j (i + 1) (set spots i r)
stood_more {t} {k} {j} {i} {spots} s l {r} e = record {
  each = fill_any None (λ (y : ℕ) (x : Option Spot). x ≡ text_spot t k (j + y)) spots i r l s.each e;
}

-- m entries that stand and are seen, where no more are left or there are 64
pub read_ahead : {t : Table} {k j m : ℕ} {spots : List (Option Spot)} {seen : List ℕ} → Stood t k j m spots → SeenBefore t.bytes m spots seen
    → ((i : ℕ) → i < 64 → j + i < entries t k → i < m) → ReadAhead t k j spots seen
read_ahead s f g = record {
  prefetched = λ i a h. record { standing = s.each i (g i a h); before = f.each i (g i a h) };
}

-- 64 prefetched entries serve those from one multiple of 64 up to the next
module _ {t : Table} {k : ℕ} {spots : List (Option Spot)} {seen : List ℕ} (j : ℕ) where
  pub near_first : j % 64 ≡ 0 → ReadAhead t k j spots seen → ReadAhead t k (j - j % 64) spots seen
  near_first h g = let z : j ≡ j - j % 64 = omega arith in subst (λ (x : ℕ). ReadAhead t k x spots seen) z g

  pub near_next : ReadAhead t k (j - j % 64) spots seen → Ahead t k (j + 1) spots seen
  near_next g = record {
    rest = λ h. let z : j - j % 64 ≡ j + 1 - (j + 1) % 64 = omega arith in subst (λ (x : ℕ). ReadAhead t k x spots seen) z g;
  }

  pub near_at : ReadAhead t k (j - j % 64) spots seen → j < entries t k → Prefetched t k j (get_or spots (j % 64) None) (get_or seen (j % 64) 0)
  near_at g h =
      let z : j - j % 64 + j % 64 ≡ j = omega arith in
      subst (λ (x : ℕ). Prefetched t k x (get_or spots (j % 64) None) (get_or seen (j % 64) 0)) z
      (g.prefetched (j % 64) (omega arith) (omega arith))

-- nothing is read yet
pub ahead_none : {t : Table} {k : ℕ} {spots : List (Option Spot)} {seen : List ℕ} → Ahead t k 0 spots seen
ahead_none = record { rest = λ h. absurd (h refl) }
