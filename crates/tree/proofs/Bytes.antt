-- The workspace that acceptance leaves, byte by byte. Assumes nothing.
use Prim.Native.Nat.{ℕ, ◌≤◌}
use native.Mathlib.Omega.{arith}
use mathlib.Core.Path.{◌≡◌, refl, ap, ◌∙◌}
use mathlib.Core.Logic.{◌↔◌}
use mathlib.Core.List.{List}
use lib.ListN.{length, get_or, drop, length-append, length-drop, get_or-append}
use Rattle.region.specs.Region.{Laid, Resolves, number_of, all_used}
use Rattle.region.proofs.Laws.{number_lt, all-length, all-at}
use Rattle.layout.specs.Edition.{node_size}
use Rattle.layout.specs.Layout.{nodes_at}
use Rattle.layout.specs.declared.Edition.{Edition}
use Rattle.tree.specs.File.{address, used_node_count}
use Rattle.tree.specs.Marks.{is_child?, mark_by, marks_of, marked}
use Rattle.tree.proofs.Marking.{marks_at, all_marks}
pub use Rattle.tree.proofs.Cleared.{cleared_at, cleared-rest, cleared-long}

-- ---- a mark is 1 or 0

pub mark_iff : {P : Type 0} (d : Dec P) → (mark_by d ≡ 1) ↔ P
unfolding mark_by
mark_iff (yes p) = (λ e. p, λ q. refl)
mark_iff (no f) = (λ e. absurd (omega arith), λ p. absurd (f p))

pub mark_zero : {P : Type 0} (d : Dec P) → (P → ⊥) → mark_by d ≡ 0
unfolding mark_by
mark_zero (yes p) g = absurd (g p)
mark_zero (no f) g = refl

-- ---- acceptance marks

module _ (ed : Edition) (b ws : List ℕ) (g : Laid (node_size ed) b (nodes_at ed b)) where
  pub marked-at : (seg el : ℕ) → Resolves (node_size ed) b (nodes_at ed b) seg el
      → get_or (marked ed b ws) (number_of (node_size ed) b (nodes_at ed b) seg el) 0 ≡ mark_by (is_child? ed b (address seg el))
  unfolding marked used_node_count
  marked-at seg el h =
      let n = number_lt (node_size ed) b (nodes_at ed b) seg el h in
      let l = all-length (node_size ed) b (nodes_at ed b) in
      let m = all_marks ed b g in
      get_or-append (marks_of ed b (all_used (node_size ed) b (nodes_at ed b))) _ 0 (number_of (node_size ed) b (nodes_at ed b) seg el) (omega arith)
      ∙ marks_at ed b g (all_used (node_size ed) b (nodes_at ed b)) (number_of (node_size ed) b (nodes_at ed b) seg el) (omega arith)
      ∙ ap (λ (x : ℕ). mark_by (is_child? ed b x)) (all-at (node_size ed) b (nodes_at ed b) seg el h)

  pub marked-long : used_node_count ed b ≤ length ws → length (marked ed b ws) ≡ length ws
  unfolding marked
  marked-long h =
      let m = all_marks ed b g in
      let d = length-drop (used_node_count ed b) ws in
      length-append (marks_of ed b (all_used (node_size ed) b (nodes_at ed b))) (drop (used_node_count ed b) ws) ∙ omega arith
