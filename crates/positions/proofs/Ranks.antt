-- The places where texts can begin, numbered along the file; a table with as many entries there as places is packed. Assumes nothing.
use Prim.Native.Nat.{ℕ, zero, suc, ◌+◌, ◌-◌, ◌*◌, ◌≤◌, ◌<◌}
use native.Mathlib.Nat.{eq-or-lt_of_le}
use native.Mathlib.Omega.{arith}
use mathlib.Core.Path.{◌≡◌, refl, ap, sym, subst, ◌∙◌}
use mathlib.Core.Logic.{⊎_elim}
use mathlib.Core.Bool.{Bool, true, cond}
use mathlib.Core.List.{List}
use lib.Dec.{eqb}
use lib.ListN.{length}
use Rattle.laws.proofs.Order.{le_or_lt}
use Rattle.verdict.proofs.Laws.{Clean}
use Rattle.le.specs.Le.{u16_at, u32_at}
use Rattle.region.specs.Region.{count_of, start_of, used_of, place_of, Resolves}
use Rattle.region.specs.inner.Samples.{Mapped}
use Rattle.region.specs.declared.Region.{Region}
use Rattle.region.proofs.Samples.{used-at}
use Rattle.text.specs.inner.Zeros.{zeros_in}
use Rattle.layout.specs.Table.{Table, segment_of, element_of}
use Rattle.strings.specs.inner.Begins.{begins, AllBegun}
use Rattle.strings.specs.Order.{all_entry_checks}
use Rattle.strings.proofs.Accepted.{all_good}
use Rattle.strings.proofs.Spots.{used_in}
use Rattle.strings.proofs.Only.{text-of-address, one_entry}
use Rattle.positions.specs.inner.Total.{all_entries}
use Rattle.positions.specs.inner.Packed.{Packed, begun_in, begun_before, all_begun}
use Rattle.positions.proofs.Numbered.{all_taken}

-- how many such places are before an address
unfoldable rank : List ℕ → ℕ → ℕ → ℕ → ℕ
rank b r seg el = begun_before b r seg + begun_in b (place_of 2 b r seg 0) el

module _ (b : List ℕ) (r : ℕ) where
  same_place : (seg n : ℕ) → ◌≡◌ {A = ℕ} (cond (eqb (u16_at b (place_of 2 b r seg 0 + 2 * n)) 0) 1 0) (cond (eqb (u16_at b (place_of 2 b r seg n)) 0) 1 0)
  unfolding place_of
  same_place seg n = ap (λ (x : ℕ). cond {A = ℕ} (eqb (u16_at b x) 0) 1 0) (omega arith)

  -- one character more
  in_more : (seg n : ℕ) → begun_in b (place_of 2 b r seg 0) (suc n) ≡ cond (begins b r seg n) 1 0 + begun_in b (place_of 2 b r seg 0) n
  unfolding begun_in begins zeros_in
  in_more seg zero = refl
  in_more seg (suc n) = omega (arith, same_place seg n)

  in_up : (seg n m : ℕ) → n ≤ m → begun_in b (place_of 2 b r seg 0) n ≤ begun_in b (place_of 2 b r seg 0) m
  in_up seg n zero l = let e : n ≡ 0 = omega arith in rw e (omega arith)
  in_up seg n (suc m) l =
      ⊎_elim (λ e. rw e (omega arith)) (λ h. omega (arith, in_up seg n m (omega arith), in_more seg m)) (eq-or-lt_of_le l)

  in_begun : (seg n m : ℕ) → n < m → begins b r seg n ≡ true → begun_in b (place_of 2 b r seg 0) n < begun_in b (place_of 2 b r seg 0) m
  in_begun seg n m l e =
      let w : ◌≡◌ {A = ℕ} (cond (begins b r seg n) 1 0) 1 = ap (λ (x : Bool). cond {A = ℕ} x 1 0) e in
      omega (arith, in_more seg n, w, in_up seg (suc n) m l)

  before_more : (s : ℕ) → begun_before b r (suc s) ≡ begun_before b r s + begun_in b (place_of 2 b r s 0) (used_of 2 b r s)
  unfolding begun_before
  before_more s = refl

  before-up : (s m : ℕ) → s ≤ m → begun_before b r s ≤ begun_before b r m
  before-up s zero l = let e : s ≡ 0 = omega arith in rw e (omega arith)
  before-up s (suc m) l =
      ⊎_elim (λ e. rw e (omega arith)) (λ h. omega (arith, before-up s m (omega arith), before_more m)) (eq-or-lt_of_le l)

  module _ (seg el : ℕ) (h : Resolves 2 b r seg el) (e : begins b r seg el ≡ true) where
    -- a place is before all of the next segments
    rank_next : (s : ℕ) → seg < s → rank b r seg el < begun_before b r s
    unfolding rank
    rank_next s l = omega (arith, in_begun seg el (used_of 2 b r seg) h.el_in e, before_more seg, before-up (suc seg) s l)

    rank_lt : rank b r seg el < all_begun b r
    unfolding all_begun
    rank_lt = rank_next (count_of b r) h.seg_in

    rank_apart : (u f : ℕ) → seg < u → rank b r seg el ≡ rank b r u f → ⊥
    unfolding rank
    rank_apart u f l q = let w : rank b r seg el < begun_before b r u = rank_next u l in omega (arith, w)

    rank_within : (f : ℕ) → el < f → rank b r seg el ≡ rank b r seg f → ⊥
    unfolding rank
    rank_within f l q = omega (arith, in_begun seg el f l e)

  -- two places with one number are one
  rank_one : (seg el u f : ℕ) → Resolves 2 b r seg el → begins b r seg el ≡ true → Resolves 2 b r u f → begins b r u f ≡ true
      → rank b r seg el ≡ rank b r u f → (seg ≡ u) × (el ≡ f)
  rank_one seg el u f h e g d q = (same, same_el same h e q)
    where
      same : seg ≡ u
      same = ⊎_elim
          (λ l. ⊎_elim (λ w. w) (λ w. absurd (rank_apart seg el h e u f w q)) (eq-or-lt_of_le l))
          (λ l. absurd (rank_apart u f g d seg el l (sym q)))
          (le_or_lt seg u)

      same_el : seg ≡ u → Resolves 2 b r seg el → begins b r seg el ≡ true → rank b r seg el ≡ rank b r u f → el ≡ f
      same_el z h e q =
          let p : rank b r u el ≡ rank b r u f = subst (λ (x : ℕ). rank b r x el ≡ rank b r u f) z q in
          let i : Resolves 2 b r u el = subst (λ (x : ℕ). Resolves 2 b r x el) z h in
          let c : begins b r u el ≡ true = subst (λ (x : ℕ). begins b r x el ≡ true) z e in
          ⊎_elim
          (λ l. ⊎_elim (λ w. w) (λ w. absurd (rank_within u el i c f w p)) (eq-or-lt_of_le l))
          (λ l. absurd (rank_within u f g d el l (sym p)))
          (le_or_lt el f)

module _ (t : Table) (ok : Clean (all_entry_checks t)) (begun : AllBegun t) where
  -- an entry's place
  rank_of : ℕ → ℕ → ℕ
  rank_of k j = rank t.bytes t.at (segment_of t k j) (element_of t k j)

  pub packed : all_begun t.bytes t.at ≡ all_entries t → Packed t
  unfolding rank_of
  packed q seg el h e =
      let w =
      all_taken t rank_of
      (λ k j m i a b c d z.
      let y = rank_one t.bytes t.at _ _ _ _ (all_good t ok k j a b).resolved (begun k j a b) (all_good t ok m i c d).resolved (begun m i c d) z in
      one_entry t ok k j m i a b c d (text-of-address t k j _ _ y.0 y.1 ∙ sym (text-of-address t m i _ _ refl refl)))
      (all_begun t.bytes t.at) (omega (arith, q))
      (λ k j a b. rank_lt t.bytes t.at _ _ (all_good t ok k j a b).resolved (begun k j a b))
      (rank t.bytes t.at seg el) (rank_lt t.bytes t.at seg el h e) in
      let k = w.0 in
      let j = w.2.0 in
      (k, w.1, (j, w.2.1, rank_one t.bytes t.at _ _ _ _ (all_good t ok k j w.1 w.2.1).resolved (begun k j w.1 w.2.1) h e w.2.2))

-- ---- how they are counted

pub begun_none : (b : List ℕ) (p n : ℕ) → n ≡ 0 → 0 ≡ begun_in b p n
unfolding begun_in
begun_none b p zero e = refl
begun_none b p (suc n) e = absurd (omega arith)

pub begun_some : (b : List ℕ) (p n z : ℕ) → (n ≡ 0 → ⊥) → z ≡ zeros_in b p (n - 1) → 1 + z ≡ begun_in b p n
unfolding begun_in
begun_some b p zero z h e = absurd (h refl)
begun_some b p (suc n) z h e = let q : suc n - 1 ≡ n = omega arith in ap (λ (x : ℕ). 1 + x) (e ∙ ap (zeros_in b p) q)

module _ (b : List ℕ) (r : ℕ) where
  pub start_first : r + 4 ≡ start_of 2 b r 0
  unfolding start_of
  start_first = refl

  pub begun_start : 0 ≡ begun_before b r 0
  unfolding begun_before
  begun_start = refl

  -- one segment more, which starts at p
  pub begun_next : (s p u n m : ℕ) → n ≡ begun_before b r s → p ≡ start_of 2 b r s → u ≡ used_of 2 b r s → m ≡ begun_in b (p + 8) u
      → n + m ≡ begun_before b r (s + 1)
  unfolding place_of
  begun_next s p u n m e f g h =
      let z : p + 8 ≡ start_of 2 b r s + 8 + 0 * 2 = omega arith in
      let y : s + 1 ≡ suc s = omega arith in
      let w : m ≡ begun_in b (start_of 2 b r s + 8 + 0 * 2) (used_of 2 b r s) = h ∙ ap (λ (x : ℕ). begun_in b x u) z ∙ ap (begun_in b (start_of 2 b r s + 8 + 0 * 2)) g in
      rw y (omega (arith, e, w, before_more b r s))

  pub begun_all : (s n : ℕ) → n ≡ begun_before b r s → s ≡ count_of b r → n ≡ all_begun b r
  unfolding all_begun
  begun_all s n e f = e ∙ ap (begun_before b r) f

-- a segment that the code has located: its used part lies in the file, and has no more characters than 16 bits count
pub begun_fits : (b : List ℕ) (r : Region) → Mapped 2 b r.at r → (s p u : ℕ) → s < r.count → p ≡ start_of 2 b r.at s → u ≡ u32_at b (p + 4)
    → (p + 8 + 2 * u ≤ length b) × (u ≤ 65535)
begun_fits b r g s p u h q e =
    let l : s < count_of b r.at = omega (arith, g.count_is) in
    (used_in b r g s p h q u e, omega (arith, used-at 2 b r.at s p u q e, g.laid.used s l, g.laid.full s l))
