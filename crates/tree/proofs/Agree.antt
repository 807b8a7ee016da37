-- The tree of a file stays, with its rules and marks, where four bytes among the attributes change: it reads only nodes. Groundwork for
-- request T-12, whose contract will use `tree-same` for chains. Assumes nothing.
use Prim.Native.Nat.{ℕ, ◌+◌, ◌≤◌}
use mathlib.Core.Path.{◌≡◌, refl, ap, fun_ext, ◌∙◌}
use mathlib.Core.List.{List, [], ◌∷◌}
use Rattle.le.proofs.Agree.{Agree}
use Rattle.region.specs.Region.{all_used}
use Rattle.region.proofs.Agree.{total_same, all_same}
use Rattle.layout.specs.Edition.{node_size}
use Rattle.layout.specs.Layout.{nodes_at}
use Rattle.layout.specs.declared.Edition.{Edition}
use Rattle.layout.proofs.Agree.{Inside, alike_file}
use Rattle.nodes.proofs.Agree.{node-at-same, node-low, node_back, name-same, child-segment-same, child-element-same, child-count-same}
use Rattle.tree.specs.Chain.{Tree}
use Rattle.tree.specs.File.{node_of, Used, tree_of, used_node_count}
use Rattle.tree.specs.Rules.{RangeRule, DepthRule}
use Rattle.tree.specs.Marks.{IsChild, is_child?, mark_by, marks_of, marked}

-- trees with the same three parts are equal
abbrev made : (ℕ → ℕ) → (ℕ → ℕ) → (ℕ → ℕ) → Tree
made f g k = record { name = f; first = g; count = k }

made_same : (f g k p q r : ℕ → ℕ) → ((a : ℕ) → f a ≡ p a) → ((a : ℕ) → g a ≡ q a) → ((a : ℕ) → k a ≡ r a) → made f g k ≡ made p q r
made_same f g k p q r x y z =
    ap (λ (e : ℕ → ℕ). made e g k) (fun_ext x) ∙ ap (λ (e : ℕ → ℕ). made p e k) (fun_ext y) ∙ ap (λ (e : ℕ → ℕ). made p q e) (fun_ext z)

-- two rules that imply each other give the same mark
mark_same : {P Q : Type 0} (d : Dec P) (e : Dec Q) → (P → Q) → (Q → P) → mark_by e ≡ mark_by d
unfolding mark_by
mark_same (yes p) (yes q) f g = refl
mark_same (yes p) (no q) f g = absurd (q (f p))
mark_same (no p) (yes q) f g = absurd (p (g q))
mark_same (no p) (no q) f g = refl

module _ {ed : Edition} {b c : List ℕ} {x : ℕ} (a : Agree b c x) (h : Inside ed b x) where
  node-of-same : (n : ℕ) → node_of ed c n ≡ node_of ed b n
  unfolding node_of
  node-of-same n = node-at-same a h _ _

  low : (n : ℕ) → x + 4 ≤ node_of ed b n
  unfolding node_of
  low n = node-low a h _ _

  pub tree-same : tree_of ed c ≡ tree_of ed b
  unfolding tree_of
  tree-same =
      made_same _ _ _ _ _ _
      (λ n. rw (node-of-same n) (name-same a h (node_of ed b n) (low n)))
      (λ n. rw (node-of-same n, child-segment-same a h (node_of ed b n) (low n), child-element-same a h (node_of ed b n) (low n)))
      (λ n. rw (node-of-same n) (child-count-same a h (node_of ed b n) (low n)))

  pub used_back : (n : ℕ) → Used ed c n → Used ed b n
  used_back n u = node_back a h _ _ u

  pub used-nodes-same : used_node_count ed c ≡ used_node_count ed b
  unfolding used_node_count
  used-nodes-same = rw (alike_file a h).nodes-at (total_same (alike_file a h).nodes)

  pub range_same : (n : ℕ) → RangeRule ed b n → RangeRule ed c n
  range_same n g = record { rootless = rw tree-same g.rootless; fresh = λ m l u. rw tree-same (g.fresh m l (used_back m u)) }

  pub depth_same : DepthRule ed b → DepthRule ed c
  depth_same g = rw tree-same g

  -- the marks in the workspace
  is_child_same : (n : ℕ) → IsChild ed b n → IsChild ed c n
  is_child_same n w = (
    w.0,
    rw ((alike_file a h).nodes-at, (alike_file a h).nodes.count) w.1,
    (w.2.0, rw ((alike_file a h).nodes-at, (alike_file a h).nodes.used w.0) w.2.1, rw tree-same w.2.2),
  )

  is_child_back : (n : ℕ) → IsChild ed c n → IsChild ed b n
  is_child_back n w = (
    w.0,
    rw ((alike_file a h).nodes-at, (alike_file a h).nodes.count) at w.1,
    (w.2.0, rw ((alike_file a h).nodes-at, (alike_file a h).nodes.used w.0) at w.2.1, rw tree-same at w.2.2),
  )

  marks_same : (l : List ℕ) → marks_of ed c l ≡ marks_of ed b l
  unfolding marks_of
  marks_same [] = refl
  marks_same (n ∷ l) = rw (mark_same (is_child? ed b n) (is_child? ed c n) (is_child_same n) (is_child_back n), marks_same l)

  pub marked-same : (ws : List ℕ) → marked ed c ws ≡ marked ed b ws
  unfolding marked
  marked-same ws = rw (used-nodes-same, (alike_file a h).nodes-at, all_same (alike_file a h).nodes, marks_same (all_used (node_size ed) b (nodes_at ed b)))
