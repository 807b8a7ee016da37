-- The first place that a chain of so many places leads to, child by child, as the code looks for it. Assumes nothing.
use mathlib.Core.Path.{◌≡◌, refl, sym, ap, ◌∙◌}
use mathlib.Core.List.{List, [], ◌∷◌, ◌++◌}
use Prim.Native.Nat.{ℕ, zero, suc, ◌+◌, ◌-◌, ◌<◌}
use native.Mathlib.Nat.{add-zero, sub-zero}
use native.Mathlib.Numerals.{sub-one}
use native.Mathlib.Omega.{arith}
use Rattle.verdict.specs.Checks.{first_fault}
use Rattle.verdict.specs.Verdict.{Accepted, Refused}
use Rattle.verdict.proofs.Laws.{pass, stop, fault_none, never}
use Rattle.layout.specs.declared.Edition.{Edition}
use Rattle.std.specs.Prelude.{Option, Some, None}
use Rattle.tree.specs.Chain.{LiveIn, ranged, ends, first_or, most_levels}
use Rattle.tree.specs.File.{node_of, tree_of}
use Rattle.tree.specs.Rules.{FirstDeep}
use Rattle.tree.specs.Order.{depth_checks}
use Rattle.tree.specs.inner.Marking.{first_place}
use Rattle.tree.proofs.Ranged.{not_cons, ranged-none, ranged_open}
use Rattle.tree.proofs.Chains.{ends_below, below-live, below_nameless, ends-none, ends-first}

nowhere : {p : ℕ} → Some p ≡ None → ⊥
nowhere q = let z : ◌≡◌ {A = ℕ} 0 1 = cc in omega arith

module _ (ed : Edition) (b : List ℕ) where
  -- the first place of two lists one behind the other
  place_none : (x y : List ℕ) → first_place ed b x ≡ None → first_place ed b (x ++ y) ≡ first_place ed b y
  unfolding first_place
  place_none [] y q = refl
  place_none (e ∷ l) y q = absurd (nowhere q)

  place-some : (x y : List ℕ) {p : ℕ} → first_place ed b x ≡ Some p → first_place ed b (x ++ y) ≡ Some p
  unfolding first_place
  place-some [] y q = absurd (nowhere (sym q))
  place-some (e ∷ l) y q = q

  -- the first place below the n nodes from node c on
  unfoldable pub deep_from : ℕ → ℕ → ℕ → Option ℕ
  deep_from left c n = first_place ed b (ranged (ends_below (tree_of ed b) left) c n)

  pub deep_here : (left a : ℕ) → left ≡ 0 → first_place ed b (ends (tree_of ed b) left a) ≡ Some (node_of ed b a)
  unfolding first_place ends
  deep_here left a q = rw q

  pub deep_open : (left a first n : ℕ) → (left ≡ 0 → ⊥) → first ≡ (tree_of ed b).first a → n ≡ (tree_of ed b).count a
      → first_place ed b (ends (tree_of ed b) left a) ≡ deep_from (left - 1) (first + 0) (n - 0)
  unfolding deep_from ends
  deep_open zero a first n h q e = absurd (h refl)
  deep_open (suc left) a first n h q e = rw (q, e, sub-one, add-zero, sub-zero)

  pub deep_end : (left c n : ℕ) → n ≡ 0 → deep_from left c n ≡ None
  unfolding deep_from first_place
  deep_end left c n h = rw (ranged-none (ends_below (tree_of ed b) left) c n h)

  module _ (left first n j : ℕ) (h : j < n) where
    next : ranged (ends_below (tree_of ed b) left) (first + j) (n - j)
        ≡ ends_below (tree_of ed b) left (first + j) ++ ranged (ends_below (tree_of ed b) left) (first + (j + 1)) (n - (j + 1))
    next =
        let e : first + j + 1 ≡ first + (j + 1) = omega arith in
        rw (sym e) (ranged_open (ends_below (tree_of ed b) left) (first + j) (n - j) (n - (j + 1)) (omega arith))

    pub deep_hit : (x : ℕ) → LiveIn (tree_of ed b) (first + j) → first_place ed b (ends (tree_of ed b) left (first + j)) ≡ Some x → deep_from left (first + j) (n - j) ≡ Some x
    unfolding deep_from
    deep_hit x l q =
        ap (first_place ed b) next ∙ place-some _ _ (ap (first_place ed b) (below-live (tree_of ed b) left (first + j) l) ∙ q)

    deep_past : first_place ed b (ends_below (tree_of ed b) left (first + j)) ≡ None → deep_from left (first + j) (n - j) ≡ deep_from left (first + (j + 1)) (n - (j + 1))
    unfolding deep_from
    deep_past q = ap (first_place ed b) next ∙ place_none _ _ q

    pub deep_miss : LiveIn (tree_of ed b) (first + j) → first_place ed b (ends (tree_of ed b) left (first + j)) ≡ None
        → deep_from left (first + j) (n - j) ≡ deep_from left (first + (j + 1)) (n - (j + 1))
    deep_miss l q = deep_past (ap (first_place ed b) (below-live (tree_of ed b) left (first + j) l) ∙ q)

    pub deep_skip : (tree_of ed b).name (first + j) ≡ 0 → deep_from left (first + j) (n - j) ≡ deep_from left (first + (j + 1)) (n - (j + 1))
    unfolding first_place
    deep_skip z = deep_past (ap (first_place ed b) (below_nameless (tree_of ed b) left (first + j) z))

-- ---- 22

module _ (ed : Edition) (b : List ℕ) where
  place_empty : (l : List ℕ) → first_place ed b l ≡ None → l ≡ []
  unfolding first_place
  place_empty [] q = refl
  place_empty (e ∷ l) q = absurd (nowhere q)

  place-first : (l : List ℕ) {p : ℕ} → first_place ed b l ≡ Some p → (e : ℕ) × (r : List ℕ) × (l ≡ e ∷ r) × (node_of ed b e ≡ p)
  unfolding first_place
  place-first [] q = absurd (nowhere (sym q))
  place-first (e ∷ l) q = (e, l, refl, (cc))

  -- nothing is found where no chain is too long
  pub depth_clean : first_place ed b (ends (tree_of ed b) most_levels 0) ≡ None → first_fault (depth_checks ed b) ≡ Accepted
  unfolding depth_checks
  depth_clean q = pass _ _ _ _ _ ((ends-none (tree_of ed b) most_levels 0).0 (place_empty _ q)) ∙ fault_none

  -- what is found is the place that 22 names
  pub depth_fault : {p : ℕ} → first_place ed b (ends (tree_of ed b) most_levels 0) ≡ Some p → first_fault (depth_checks ed b) ≡ Refused 22 p
  unfolding depth_checks first_or
  depth_fault q =
      let f = place-first _ q in
      stop _ _ _ _ _ (λ h. not_cons (sym ((ends-none (tree_of ed b) most_levels 0).1 h) ∙ f.2))
      ∙ ap (λ (l : List ℕ). Refused 22 (node_of ed b (first_or 0 l))) f.2 ∙ ap (Refused 22) f.3

  -- that place is the last node of the first chain of 65 nodes in document order
  pub depth-first : {n p : ℕ} → first_fault (depth_checks ed b) ≡ Refused n p → (n ≡ 22) × ((e : ℕ) × (p ≡ node_of ed b e) × FirstDeep (tree_of ed b) most_levels 0 e)
  depth-first {n} {p} q = go (first_place ed b (ends (tree_of ed b) most_levels 0)) refl
    where
      go : (f : Option ℕ) → first_place ed b (ends (tree_of ed b) most_levels 0) ≡ f → (n ≡ 22) × ((e : ℕ) × (p ≡ node_of ed b e) × FirstDeep (tree_of ed b) most_levels 0 e)
      go None h = absurd (never q (depth_clean h))
      go (Some x) h =
          let w = place-first _ h in
          let d = depth_fault h in
          ((cc), (w.0, (let z = w.3 in cc), ends-first (tree_of ed b) most_levels 0 w.0 w.1 w.2))
