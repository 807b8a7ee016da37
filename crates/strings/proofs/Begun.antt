-- Laws of specs/inner/Begins.antt: what the code reads to tell that a text can begin. Assumes nothing.
use Prim.Native.Nat.{ℕ, zero, suc, ◌+◌, ◌-◌, ◌%◌, ◌<◌, ◌≤◌}
use native.Mathlib.Omega.{arith}
use mathlib.Core.Path.{◌≡◌, refl, ap, sym, ◌∙◌}
use mathlib.Core.Bool.{true}
use mathlib.Core.List.{List}
use borrow.Author.Count.{below_more}
use borrow.Author.Tests.{eq-eqb}
use Rattle.verdict.proofs.Laws.{Clean}
use Rattle.std.specs.Prelude.{Option}
use Rattle.le.specs.Le.{u16_at}
use Rattle.region.specs.Region.{place_of}
use Rattle.layout.specs.Table.{Table, entries, element_of}
use Rattle.strings.specs.inner.Begins.{begins, Begun, AllBegun}
use Rattle.strings.specs.inner.Ahead.{Prefetched}
use Rattle.strings.specs.Order.{entry_checks}
use Rattle.strings.specs.declared.spot.Spot.{Spot}
use Rattle.strings.proofs.Spots.{spot_yes}
use Rattle.strings.proofs.Accepted.{entry_good}

module _ (b : List ℕ) (r seg : ℕ) where
  -- the first character of a segment
  pub begins-first : (el : ℕ) → el ≡ 0 → begins b r seg el ≡ true
  unfolding begins
  begins-first zero e = refl
  begins-first (suc el) e = absurd (omega arith)

  -- the one behind a 0
  pub begins_behind : (el x : ℕ) → x ≡ place_of 2 b r seg el → u16_at b (x - 2) ≡ 0 → begins b r seg el ≡ true
  unfolding begins place_of
  begins_behind zero x e z = refl
  begins_behind (suc el) x e z = eq-eqb _ 0 (ap (u16_at b) (omega arith) ∙ z)

-- an entry that passed, by what was read ahead of it
module _ (t : Table) (k j : ℕ) {r : Option Spot} {c : ℕ} (ok : Clean (entry_checks t k j)) (g : Prefetched t k j r c) where
  pub begun_first : (el : ℕ) → el ≡ element_of t k j → el ≡ 0 → Begun t k j
  begun_first el e z = begins-first _ _ _ _ (sym e ∙ z)

  pub begun_behind : c % 65536 ≡ 0 → Begun t k j
  begun_behind w =
      let h = (entry_good t k j ok).resolved in
      begins_behind _ _ _ _ _ refl (sym (g.before _ (g.standing ∙ spot_yes _ _ _ _ h.seg_in h.el_in)) ∙ w)

-- the entries of the buckets before k, and those of bucket k before j
abbrev pub BegunBefore : Table → ℕ → Type 0
BegunBefore t k = (m : ℕ) → m < k → (i : ℕ) → i < entries t m → Begun t m i

pub before_more : (t : Table) (k j : ℕ) → BegunBefore t k → entries t k ≤ j → ((i : ℕ) → i < j → Begun t k i) → BegunBefore t (k + 1)
before_more t k j f l g = below_more (λ (m : ℕ). (i : ℕ) → i < entries t m → Begun t m i) k f (λ i h. g i (omega arith))

pub before-all : (t : Table) (k : ℕ) → BegunBefore t k → t.buckets ≤ k → AllBegun t
before-all t k f l m i h = f m (omega arith) i
