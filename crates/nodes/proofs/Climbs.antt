-- Refusal 23: names that do not fall, read along a child range. Assumes nothing.
use Prim.Native.Nat.{ℕ, ◌+◌, ◌*◌, ◌≤◌, ◌<◌}
use native.Mathlib.Nat.{not-suc-le-zero}
use native.Mathlib.Omega.{arith}
use mathlib.Core.Path.{◌≡◌, ap, sym, subst, ◌∙◌}
use mathlib.Core.Bool.{Bool, true, false}
use mathlib.Core.Logic.{◌⊎◌, inl, inr, ⊎_elim}
use mathlib.Core.List.{List}
use lib.ListN.{length}
use borrow.Author.Count.{below_more}
use Rattle.verdict.specs.Checks.{SomeBelow}
use Rattle.verdict.specs.inner.Tells.{Tells}
use Rattle.verdict.proofs.Laws.{tells_yes, tells_no}
use Rattle.std.specs.Prelude.{Option, Some, None}
use Rattle.region.specs.declared.Region.{Region}
use Rattle.region.specs.Region.{Laid, range_at}
use Rattle.region.specs.inner.Samples.{Mapped}
use Rattle.region.proofs.Laws.{place-row}
use Rattle.layout.specs.Edition.{node_size}
use Rattle.layout.specs.Layout.{nodes_at}
use Rattle.layout.specs.declared.Edition.{Edition}
use Rattle.nodes.specs.Node.{node_name, child_segment, child_element, child_count, Live, node_at, child_at}
use Rattle.nodes.specs.Rules.{ChildRule}
use Rattle.nodes.specs.inner.Search.{NamesRise}
use Rattle.nodes.proofs.Sought.{sought_out, sought_in, sought_at, sought_fits}

-- what the first i nodes from q on leave: their live names do not fall, all are at most `last`, and `last` is one of them, or 0
pub record Climbed (ed : Edition) (b : List ℕ) (q i last : ℕ) : Type 0 where
  pub rising : NamesRise ed b q i
  pub most : (k : ℕ) → k < i → node_name b (q + k * node_size ed) ≤ last
  pub own : (last ≡ 0) ⊎ SomeBelow i (λ k. node_name b (q + k * node_size ed) ≡ last)

module _ (ed : Edition) (b : List ℕ) (q : ℕ) where
  module _ (i last : ℕ) (h : Climbed ed b q i last) (name : ℕ) (e : name ≡ node_name b (q + i * node_size ed)) where
    pub climb_skip : name ≡ 0 → Climbed ed b q (i + 1) last
    climb_skip z = record {
      rising = below_more _ i h.rising (λ k l u v. absurd (v (sym e ∙ z)));
      most = below_more _ i h.most (omega (arith, e));
      own = ⊎_elim inl (λ w. inr (w.0, omega (arith, w.1), w.2)) h.own;
    }

    pub climb_more : last ≤ name → Climbed ed b q (i + 1) name
    climb_more l = record {
      rising = below_more _ i h.rising (λ k m u v. omega (arith, h.most k m, e));
      most = below_more _ i (λ k m. omega (arith, h.most k m)) (omega (arith, e));
      own = inr (i, omega arith, sym e);
    }

    pub climb_falls : (n : ℕ) → i < n → (name ≡ 0 → ⊥) → name < last → Tells (NamesRise ed b q n) false
    climb_falls n m d l =
        tells_no
        (λ r.
        ⊎_elim
        (λ z. omega arith)
        (λ w. omega (arith, w.2, e, r i m w.0 w.1 (λ z. omega (arith, w.2, z)) (λ z. d (e ∙ z))))
        h.own)

  pub climb_whole : (i n last : ℕ) → i ≡ n → Climbed ed b q i last → Tells (NamesRise ed b q n) true
  climb_whole i n last e h = tells_yes (subst (λ (m : ℕ). NamesRise ed b q m) e h.rising)

-- names that do not fall at some offsets do not fall at the same offsets said otherwise
abbrev Climbing : List ℕ → (ℕ → ℕ) → ℕ → Type 0
Climbing b f n = (j : ℕ) → j < n → (i : ℕ) → i < j → Live b (f i) → Live b (f j) → node_name b (f i) ≤ node_name b (f j)

same_climb : (b : List ℕ) (f g : ℕ → ℕ) (n : ℕ) → ((i : ℕ) → f i ≡ g i) → Climbing b f n → Climbing b g n
same_climb b f g n e h j l i m u v =
    let x = ap (node_name b) (e i) in
    let y = ap (node_name b) (e j) in
    omega (arith, x, y, h j l i m (λ z. u (sym x ∙ z)) (λ z. v (sym y ∙ z)))

-- where the children of the node at p are looked for, as the code reads it
pub children_sought : (ed : Edition) (b : List ℕ) (p n : ℕ) (g : Region) → Mapped (node_size ed) b (nodes_at ed b) g
    → (seg el : ℕ) → seg ≡ child_segment ed b p → el ≡ child_element ed b p → (r : Option ℕ) → r ≡ range_at (node_size ed) b g.at seg el n
    → r ≡ range_at (node_size ed) b (nodes_at ed b) (child_segment ed b p) (child_element ed b p) n
children_sought ed b p n g w seg el s t r f = let a = w.at_is in cc

-- 23 of the node at p with n children
module _ (ed : Edition) (b : List ℕ) (p n : ℕ) (c : n ≡ child_count b p) where
  pub children-none : n ≡ 0 → Tells (ChildRule ed b p) true
  children-none z = tells_yes (record { reach = inl (sym c ∙ z); rising = λ j l. absurd (not-suc-le-zero {n = j} (omega arith)) })

  module _ (r : Option ℕ) (f : r ≡ range_at (node_size ed) b (nodes_at ed b) (child_segment ed b p) (child_element ed b p) n) where
    pub children-nowhere : (n ≡ 0 → ⊥) → r ≡ None → Tells (ChildRule ed b p) false
    children-nowhere d e = tells_no (λ h. sought_out _ _ _ _ _ _ _ c r f d e h.reach)

    module _ (q : ℕ) (e : r ≡ Some q) where
      pub children_fit : Laid (node_size ed) b (nodes_at ed b) → q + n * node_size ed ≤ length b
      children_fit g = sought_fits _ _ _ _ _ _ _ c r f q e g

      offset : (i : ℕ) → q + i * node_size ed ≡ child_at ed b p i
      unfolding child_at node_at
      offset i = omega (arith, sought_at _ _ _ _ _ _ _ c r f q e, place-row (node_size ed) b (nodes_at ed b) (child_segment ed b p) (child_element ed b p) i)

      pub children-told : (v : Bool) → Tells (NamesRise ed b q n) v → Tells (ChildRule ed b p) v
      children-told v h = record {
        so = λ o. record {
          reach = sought_in _ _ _ _ _ _ _ c r f q e;
          rising = rw c at (same_climb b (λ i. q + i * node_size ed) (child_at ed b p) n offset (h.so o));
        };
        not = λ o k. h.not o (same_climb b (child_at ed b p) (λ i. q + i * node_size ed) n (λ i. sym (offset i)) (rw (← c) at k.rising));
      }
