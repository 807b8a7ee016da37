-- The marks in the workspace while the nodes are passed in file order, and at the end. Assumes nothing.
use Prim.Native.Nat.{ℕ, zero, suc, ◌+◌, ◌-◌, ◌/◌, ◌%◌, ◌≤◌, ◌<◌}
use native.Mathlib.Nat.{not-suc-le-zero}
use native.Mathlib.Omega.{arith}
use mathlib.Core.Path.{◌≡◌, refl, sym, ap, subst, ◌∙◌}
use mathlib.Core.Logic.{◌⊎◌, inl, inr, ⊎_elim}
use mathlib.Core.List.{List, [], ◌∷◌, ◌++◌}
use lib.ListN.{length, drop, take, get_or, replicate, length-replicate, take-append-drop}
use lib.Seq.{ext_get_or, length-take-le, get_or-take, drop_at}
use Rattle.laws.specs.inner.Lists.{splice}
use Rattle.laws.proofs.Order.{le_or_lt}
use Rattle.laws.proofs.Splice.{splice_nil, splice-length, splice-before, splice-after}
use Rattle.region.specs.Region.{Resolves, Laid, count_of, used_of, number_of, all_used}
use Rattle.region.proofs.Laws.{number_lt, number-found, all-length, all-at}
use Rattle.layout.specs.Edition.{node_size}
use Rattle.layout.specs.Layout.{nodes_at}
use Rattle.layout.specs.declared.Edition.{Edition}
use Rattle.nodes.specs.Rules.{NodesRules}
use Rattle.tree.specs.Chain.{child}
use Rattle.tree.specs.File.{address, node_of, Used, tree_of, used_node_count}
use Rattle.tree.specs.Rules.{RangeRule}
use Rattle.tree.specs.Marks.{InRange, IsChild, is_child?, mark_by, marks_of, cleared, marked}
use Rattle.tree.specs.inner.Marking.{Free, first_number}
use Rattle.tree.proofs.Fills.{fill_in, splice-drop}
use Rattle.tree.proofs.Cleared.{cleared_at}
use Rattle.tree.proofs.Addresses.{address-of, small-element, used-of}
use Rattle.tree.proofs.Numbers.{root-number, range-room, reached, child-number, number-child, at-child}

-- node x is in the child range of a used node before node a
abbrev pub ChildBefore : Edition → List ℕ → ℕ → ℕ → Type 0
ChildBefore ed b a x = (c : ℕ) × (c < a) × Used ed b c × InRange (tree_of ed b) c x

-- byte i is 1 where it is so, else 0
abbrev Bit : List ℕ → Type 0 → ℕ → Type 0
Bit w P i = ((get_or w i 0 ≡ 1) × P) ⊎ ((get_or w i 0 ≡ 0) × (P → ⊥))

-- w is ws, but that its first U bytes mark the children of the nodes before node a
pub record Marks (ed : Edition) (b ws : List ℕ) (a : ℕ) (w : List ℕ) : Type 0 where
  pub long : length w ≡ length ws
  pub rest : drop (used_node_count ed b) w ≡ drop (used_node_count ed b) ws
  pub bits : (s e : ℕ) → Resolves (node_size ed) b (nodes_at ed b) s e → Bit w (ChildBefore ed b a (address s e)) (number_of (node_size ed) b (nodes_at ed b) s e)

module _ (ed : Edition) (b ws : List ℕ) (room : used_node_count ed b ≤ length ws) where
  -- before the first node no byte is marked
  pub marks_start : Marks ed b (cleared ed b ws) 0 (cleared ed b ws)
  unfolding used_node_count
  marks_start = record {
    long = refl;
    rest = refl;
    bits = λ s e h. inr (cleared_at ed b ws _ (number_lt (node_size ed) b (nodes_at ed b) s e h), λ k. not-suc-le-zero k.1);
  }

  -- where there is no used node nothing changes
  pub marks_skip : (a c : ℕ) (w : List ℕ) → a ≤ c → ((d : ℕ) → a ≤ d → d < c → Used ed b d → ⊥) → Marks ed b ws a w → Marks ed b ws c w
  marks_skip a c w h f m = record {
    long = m.long;
    rest = m.rest;
    bits = λ s e r.
        ⊎_elim
        (λ y. inl (y.0, (y.1.0, omega (arith, y.1.1), y.1.2, y.1.3)))
        (λ y. inr (y.0, λ k. ⊎_elim (λ l. f k.0 l k.1 k.2) (λ l. y.1 (k.0, l, k.2, k.3)) (le_or_lt a k.0)))
        (m.bits s e r);
  }

  pub marks_segment : (seg el : ℕ) (w : List ℕ) → used_of (node_size ed) b (nodes_at ed b) seg ≤ el → el < 65536 → Marks ed b ws (address seg el) w
      → Marks ed b ws (address (seg + 1) 0) w
  marks_segment seg el w h l m =
      marks_skip (address seg el) (address (seg + 1) 0) w (omega arith)
      (λ d x y u. let e : d / 65536 ≡ seg = omega arith in let z = ap (used_of (node_size ed) b (nodes_at ed b)) e in omega (arith, u.el_in))
      m

  module _ (g : Laid (node_size ed) b (nodes_at ed b)) (r : NodesRules ed b) (a : ℕ) (u : Used ed b a) (w : List ℕ) (m : Marks ed b ws a w) where
    -- the byte of a child tells whether an earlier range holds it
    child_bit : (j : ℕ) → j < (tree_of ed b).count a → Bit w (ChildBefore ed b a (child (tree_of ed b) a j)) (first_number ed b (node_of ed b a) + j)
    child_bit j l = at-child ed b g r a u j l (λ i x. Bit w (ChildBefore ed b a x) i) m.bits

    -- a range is free in the workspace exactly when it keeps rule 21
    pub free-rule : Free w (first_number ed b (node_of ed b a)) ((tree_of ed b).count a) → RangeRule ed b a
    free-rule f = record {
      rootless = λ j l q. f.rootless j l (sym (child-number ed b g r a u j l 0 0 r.root (sym q)) ∙ root-number ed b);
      fresh = λ c h v j l k i q.
          ⊎_elim (λ y. omega (arith, y.0, f.unmarked j l)) (λ y. y.1 (c, h, v, (k, i, sym q))) (child_bit j l);
    }

    pub rule-free : RangeRule ed b a → Free w (first_number ed b (node_of ed b a)) ((tree_of ed b).count a)
    rule-free f = record {
      rootless = λ j l q. f.rootless j l (sym (number-child ed b g r a u j l 0 0 r.root (root-number ed b ∙ sym q)));
      unmarked = λ j l.
          ⊎_elim
          (λ y. absurd (f.fresh y.1.0 y.1.1 y.1.2 j l y.1.3.0 y.1.3.1 (sym y.1.3.2)))
          (λ y. y.0)
          (child_bit j l);
    }

    -- an element outside the range is as it was
    outside : (x i : ℕ) (v : List ℕ) → (InRange (tree_of ed b) a x → ⊥) → get_or v i 0 ≡ get_or w i 0 → Bit w (ChildBefore ed b a x) i → Bit v (ChildBefore ed b (a + 1) x) i
    outside x i v f q h =
        ⊎_elim
        (λ y. inl (q ∙ y.0, (y.1.0, omega (arith, y.1.1), y.1.2, y.1.3)))
        (λ y. inr (
          q ∙ y.0,
          λ k. ⊎_elim
              (λ l. let e : k.0 ≡ a = omega (arith, k.1) in f (subst (λ (c : ℕ). InRange (tree_of ed b) c x) e k.3))
              (λ l. y.1 (k.0, l, k.2, k.3))
              (le_or_lt a k.0),
        ))
        h

    module _ (fits : first_number ed b (node_of ed b a) + (tree_of ed b).count a ≤ used_node_count ed b) where
      abbrev next : List ℕ
      next = splice w (first_number ed b (node_of ed b a)) (replicate ((tree_of ed b).count a) 1)

      size : length {A = ℕ} (replicate ((tree_of ed b).count a) 1) ≡ (tree_of ed b).count a
      size = length-replicate ((tree_of ed b).count a) 1

      next_bit : (s e : ℕ) → Resolves (node_size ed) b (nodes_at ed b) s e → Bit next (ChildBefore ed b (a + 1) (address s e)) (number_of (node_size ed) b (nodes_at ed b) s e)
      next_bit s e h =
          let i : ℕ = number_of (node_size ed) b (nodes_at ed b) s e in
          let f : ℕ = first_number ed b (node_of ed b a) in
          let o = size in
          let z = m.long in
          ⊎_elim
          (λ ge. ⊎_elim
          (λ far. outside (address s e) i next
          (λ k. omega (arith, k.1, child-number ed b g r a u k.0 k.1 s e h (sym k.2)))
          (splice-after w f (replicate ((tree_of ed b).count a) 1) i (omega arith) (omega arith))
          (m.bits s e h))
          (λ near.
          let l : i - f < (tree_of ed b).count a = omega arith in
          let q : f + (i - f) ≡ i = omega arith in
          inl (
            ap (λ (k : ℕ). get_or next k 0) (sym q) ∙ fill_in w f ((tree_of ed b).count a) 1 (i - f) (omega arith) l,
            (a, omega arith, u, (i - f, l, sym (number-child ed b g r a u (i - f) l s e h (sym q)))),
          ))
          (le_or_lt (f + (tree_of ed b).count a) i))
          (λ lt. outside (address s e) i next
          (λ k. omega (arith, k.1, child-number ed b g r a u k.0 k.1 s e h (sym k.2)))
          (splice-before w f (replicate ((tree_of ed b).count a) 1) i (omega arith) lt)
          (m.bits s e h))
          (le_or_lt f i)

      marks_range : Marks ed b ws (a + 1) next
      marks_range =
          let o = size in
          let z = m.long in
          record {
            long = splice-length w _ _ (omega arith) ∙ m.long;
            rest = splice-drop w _ _ (used_node_count ed b) (omega arith) (omega arith) ∙ m.rest;
            bits = next_bit;
          }

    -- a range without elements changes nothing
    marks_none : (tree_of ed b).count a ≡ 0 → Marks ed b ws (a + 1) (splice w (first_number ed b (node_of ed b a)) (replicate ((tree_of ed b).count a) 1))
    marks_none z =
        rw (z, splice_nil)
        (record {
          long = m.long;
          rest = m.rest;
          bits = λ s e h. outside (address s e) _ w (λ k. omega (arith, k.1)) refl (m.bits s e h);
        })

    -- the node's range is marked
    pub marks_node : Marks ed b ws (a + 1) (splice w (first_number ed b (node_of ed b a)) (replicate ((tree_of ed b).count a) 1))
    unfolding tree_of
    marks_node = ⊎_elim marks_none marks_range (range-room ed b (node_of ed b a) (reached ed b g r a u))

-- ---- at the end

module _ (ed : Edition) (b : List ℕ) (g : Laid (node_size ed) b (nodes_at ed b)) where
  -- the nodes before the end of the last segment are all used nodes
  is_child : (x : ℕ) → ChildBefore ed b (address (count_of b (nodes_at ed b)) 0) x → IsChild ed b x
  is_child x k =
      (k.0 / 65536, k.2.seg_in, (k.0 % 65536, k.2.el_in, subst (λ (c : ℕ). InRange (tree_of ed b) c x) (sym (address-of k.0)) k.3))

  child_is : (x : ℕ) → IsChild ed b x → ChildBefore ed b (address (count_of b (nodes_at ed b)) 0) x
  child_is x k =
      let h : Resolves (node_size ed) b (nodes_at ed b) k.0 k.2.0 = record { seg_in = k.1; el_in = k.2.1 } in
      (address k.0 k.2.0, omega (arith, k.1, small-element ed b g k.0 k.2.0 h), used-of ed b g k.0 k.2.0 h, k.2.2)

  mark_bit : {P : Type 0} (Q : Type 0) (d : Dec P) (w : List ℕ) (i : ℕ) → (Q → P) → (P → Q) → Bit w Q i → get_or w i 0 ≡ mark_by d
  unfolding mark_by
  mark_bit Q (yes p) w i f h t = ⊎_elim (λ y. y.0) (λ y. absurd (y.1 (h p))) t
  mark_bit Q (no n) w i f h t = ⊎_elim (λ y. absurd (n (f y.1))) (λ y. y.0) t

  marks_length : (l : List ℕ) → length (marks_of ed b l) ≡ length l
  unfolding marks_of
  marks_length [] = refl
  marks_length (x ∷ l) = ap suc (marks_length l)

  pub marks_at : (l : List ℕ) (i : ℕ) → i < length l → get_or (marks_of ed b l) i 0 ≡ mark_by (is_child? ed b (get_or l i 0))
  unfolding marks_of
  marks_at [] i h = absurd (not-suc-le-zero h)
  marks_at (x ∷ l) zero h = refl
  marks_at (x ∷ l) (suc i) h = marks_at l i (omega arith)

  pub all_marks : length (marks_of ed b (all_used (node_size ed) b (nodes_at ed b))) ≡ used_node_count ed b
  unfolding used_node_count
  all_marks = marks_length (all_used (node_size ed) b (nodes_at ed b)) ∙ all-length (node_size ed) b (nodes_at ed b)

  module _ (ws w : List ℕ) (room : used_node_count ed b ≤ length ws) (m : Marks ed b ws (address (count_of b (nodes_at ed b)) 0) w) where
    end_bit : (i : ℕ) → i < used_node_count ed b → get_or w i 0 ≡ get_or (marks_of ed b (all_used (node_size ed) b (nodes_at ed b))) i 0
    unfolding used_node_count
    end_bit i h =
        let n = number-found (node_size ed) b (nodes_at ed b) i h in
        let q = all-at (node_size ed) b (nodes_at ed b) n.0 n.1 n.2 in
        let t = m.bits n.0 n.1 n.2 in
        ap (λ (k : ℕ). get_or w k 0) (sym n.3)
        ∙ mark_bit _ (is_child? ed b (address n.0 n.1)) w _ (is_child _) (child_is _) t
        ∙ ap (λ (x : ℕ). mark_by (is_child? ed b x)) (sym q)
        ∙ ap (λ (k : ℕ). mark_by (is_child? ed b (get_or (all_used (node_size ed) b (nodes_at ed b)) k 0))) n.3
        ∙ sym (marks_at (all_used (node_size ed) b (nodes_at ed b)) i (omega (arith, all-length (node_size ed) b (nodes_at ed b))))

    -- every byte of the workspace is as acceptance leaves it
    pub marks_end : w ≡ marked ed b ws
    unfolding marked
    marks_end =
        let z = m.long in
        let t : length (take (used_node_count ed b) w) ≡ used_node_count ed b = length-take-le (used_node_count ed b) w (omega arith) in
        sym (take-append-drop (used_node_count ed b) w)
        ∙ ap (λ (v : List ℕ). v ++ drop (used_node_count ed b) w)
        (ext_get_or 0 (take (used_node_count ed b) w) (marks_of ed b (all_used (node_size ed) b (nodes_at ed b))) (t ∙ sym all_marks)
        (λ i h. get_or-take (used_node_count ed b) w i 0 (omega arith) ∙ end_bit i (omega arith)))
        ∙ ap (λ (v : List ℕ). marks_of ed b (all_used (node_size ed) b (nodes_at ed b)) ++ v) m.rest

-- ---- what lies past the first U bytes is all that an outcome keeps

pub marked-same : (ed : Edition) (b v w : List ℕ) → drop (used_node_count ed b) v ≡ drop (used_node_count ed b) w → marked ed b v ≡ marked ed b w
unfolding marked
marked-same ed b v w q = ap (λ (u : List ℕ). marks_of ed b (all_used (node_size ed) b (nodes_at ed b)) ++ u) q

pub marked-rest : (ed : Edition) (b : List ℕ) → Laid (node_size ed) b (nodes_at ed b) → (w : List ℕ) → drop (used_node_count ed b) (marked ed b w) ≡ drop (used_node_count ed b) w
unfolding marked
marked-rest ed b g w = drop_at (marks_of ed b (all_used (node_size ed) b (nodes_at ed b))) (drop (used_node_count ed b) w) (used_node_count ed b) (all_marks ed b g)
