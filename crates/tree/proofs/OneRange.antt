-- The child range of one node: what the code reads of it, and what marking it is. Assumes nothing.
use Prim.Native.Nat.{ℕ, ◌+◌, ◌≤◌, ◌<◌}
use native.Mathlib.Omega.{arith}
use mathlib.Core.Path.{◌≡◌, refl, sym, subst, ◌∙◌}
use mathlib.Core.Bool.{Bool, true, false, true≢false, false≢true}
use mathlib.Core.Logic.{⊎_elim}
use mathlib.Core.List.{List}
use lib.ListN.{length, replicate}
use Rattle.laws.specs.inner.Lists.{splice}
use Rattle.laws.proofs.Splice.{splice_nil}
use Rattle.verdict.specs.inner.Tells.{Tells}
use Rattle.verdict.proofs.Laws.{tells_yes, tells_no}
use Rattle.region.specs.Region.{count_of, number_of}
use Rattle.region.specs.inner.Samples.{Mapped, Starts, Counts}
use Rattle.region.specs.declared.Region.{Region}
use Rattle.layout.specs.Edition.{node_size}
use Rattle.layout.specs.Layout.{nodes_at}
use Rattle.layout.specs.declared.Edition.{Edition}
use Rattle.nodes.specs.Node.{child_segment, child_element, child_count}
use Rattle.tree.specs.File.{used_node_count}
use Rattle.tree.specs.inner.Marking.{TreeReady, Free, Reached, first_number, MarkedOne}
use Rattle.tree.proofs.Children.{own_region}
use Rattle.tree.proofs.Numbers.{range-room}

-- the region of the nodes, with its samples of running numbers
pub own_counts : {ed : Edition} {b : List ℕ} {r : Region} {segments counts : List ℕ} → TreeReady ed b r segments → Counts (node_size ed) b (nodes_at ed b) r.shift counts
    → Mapped (node_size ed) b r.at r × Starts (node_size ed) b r.at r.shift segments × Counts (node_size ed) b r.at r.shift counts
own_counts {ed} {b} {r} {segments} {counts} g k =
    ((own_region g).0, (own_region g).1, subst (λ (x : ℕ). Counts (node_size ed) b x r.shift counts) (sym g.nodes.at_is) k)

module _ (ed : Edition) (b : List ℕ) (p : ℕ) where
  -- no child: nothing is to be marked
  pub marked-none : (w : List ℕ) → child_count b p ≡ 0 → MarkedOne ed b p w true w
  marked-none w z = record {
    free = tells_yes (record { rootless = λ j l. absurd (omega arith); unmarked = λ j l. absurd (omega arith) });
    set = λ t. rw (z, splice_nil);
    kept = λ f. absurd (true≢false f);
  }

  -- the range resolves, so its segment is there
  pub segment_there : (n seg : ℕ) → n ≡ child_count b p → seg ≡ child_segment ed b p → (n ≡ 0 → ⊥) → Reached ed b p → seg < count_of b (nodes_at ed b)
  segment_there n seg k s f h = ⊎_elim (λ z. absurd (f (k ∙ z))) (λ x. omega (arith, x.seg_in)) h

  pub first-number : (at seg el i : ℕ) → at ≡ nodes_at ed b → seg ≡ child_segment ed b p → el ≡ child_element ed b p → i ≡ number_of (node_size ed) b at seg el → i ≡ first_number ed b p
  unfolding first_number
  first-number at seg el i a s e q = q ∙ rw (a, s, e)

  module _ (i n : ℕ) (w : List ℕ) (q : i ≡ first_number ed b p) (k : n ≡ child_count b p) where
    pub range_there : (n ≡ 0 → ⊥) → Reached ed b p → used_node_count ed b ≤ length w → i + n ≤ length w
    range_there f h l = ⊎_elim (λ z. absurd (f (k ∙ z))) (λ x. omega arith) (range-room ed b p h)

    module _ {t : Bool} (f : Tells (Free w i n) t) where
      -- the range was free and is marked
      pub marked_now : (v : List ℕ) → t ≡ true → v ≡ splice w i (replicate n 1) → MarkedOne ed b p w true v
      marked_now v z h = record {
        free = tells_yes (rw (q, k) at (f.so z));
        set = λ y. rw (q, k) at h;
        kept = λ y. absurd (true≢false y);
      }

      -- it was not, and nothing changed
      pub marked-not : t ≡ false → MarkedOne ed b p w false w
      marked-not z = record {
        free = tells_no (rw (q, k) at (f.not z));
        set = λ y. absurd (false≢true y);
        kept = λ y. refl;
      }
