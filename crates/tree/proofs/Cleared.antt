-- A workspace with its first U bytes 0, as 21 and 22 leave it. Assumes nothing.
use Prim.Native.Nat.{ℕ, ◌≤◌, ◌<◌}
use native.Mathlib.Omega.{arith}
use mathlib.Core.Path.{◌≡◌, ◌∙◌}
use mathlib.Core.List.{List, ◌++◌}
use lib.ListN.{length, get_or, drop, replicate, length-append, length-drop, length-replicate, get_or-replicate, get_or-append}
use lib.Seq.{drop_at}
use Rattle.layout.specs.declared.Edition.{Edition}
use Rattle.tree.specs.File.{used_node_count}
use Rattle.tree.specs.Marks.{cleared}

module _ (ed : Edition) (b ws : List ℕ) where
  pub cleared_at : (i : ℕ) → i < used_node_count ed b → get_or (cleared ed b ws) i 0 ≡ 0
  unfolding cleared
  cleared_at i h =
      let r = length-replicate {A = ℕ} (used_node_count ed b) 0 in
      get_or-append (replicate (used_node_count ed b) 0) (drop (used_node_count ed b) ws) 0 i (omega arith) ∙ get_or-replicate (used_node_count ed b) i 0 0 h

  pub cleared-rest : drop (used_node_count ed b) (cleared ed b ws) ≡ drop (used_node_count ed b) ws
  unfolding cleared
  cleared-rest = drop_at (replicate (used_node_count ed b) 0) (drop (used_node_count ed b) ws) (used_node_count ed b) (length-replicate {A = ℕ} (used_node_count ed b) 0)

  pub cleared-long : used_node_count ed b ≤ length ws → length (cleared ed b ws) ≡ length ws
  unfolding cleared
  cleared-long h =
      let r = length-replicate {A = ℕ} (used_node_count ed b) 0 in
      let d = length-drop (used_node_count ed b) ws in
      length-append (replicate (used_node_count ed b) 0) (drop (used_node_count ed b) ws) ∙ omega arith

  pub cleared-room : used_node_count ed b ≤ length ws → used_node_count ed b ≤ length (cleared ed b ws)
  cleared-room h = omega (arith, cleared-long h)

  -- what the code puts over the first u bytes
  pub cleared_by : (u : ℕ) (r : List ℕ) → u ≡ used_node_count ed b → r ≡ replicate u 0 → r ++ drop u ws ≡ cleared ed b ws
  unfolding cleared
  cleared_by u r q e = rw (e, q)

-- what lies past the first U bytes is all that stays
pub cleared-same : (ed : Edition) (b v w : List ℕ) → drop (used_node_count ed b) v ≡ drop (used_node_count ed b) w → cleared ed b v ≡ cleared ed b w
unfolding cleared
cleared-same ed b v w q = rw q
