-- 21 and 22 come after 20: where one of them is given, the workspace has a byte for each used node. Assumes nothing.
use Prim.Native.Nat.{ℕ, ◌≤◌}
use mathlib.Core.Path.{◌≡◌, subst}
use mathlib.Core.Logic.{◌⊎◌, inl, inr, ⊎_elim}
use mathlib.Core.List.{List, ◌++◌}
use lib.Dec.{T}
use mathlib.Core.Bool.{not}
use Rattle.verdict.specs.Checks.{Check, first_fault}
use Rattle.verdict.specs.Verdict.{Refused}
use Rattle.verdict.proofs.Laws.{clean_inv}
use Rattle.verdict.proofs.Broken.{append-refused}
use Rattle.layout.specs.Layout.{layout_checks, values, names}
use Rattle.layout.specs.declared.Edition.{Edition}
use Rattle.strings.specs.Order.{string_checks}
use Rattle.keys.specs.Order.{special_checks, all_key_checks}
use Rattle.nodes.specs.Order.{all_node_checks}
use Rattle.tree.specs.File.{used_node_count}
use Rattle.tree.specs.Order.{room_checks}
use Rattle.tree.specs.Outcome.{tree_checks}
use Rattle.accept.specs.Verdict.{accept_checks, verdict_of}
use Rattle.accept.proofs.Numbers.{clearing, Calm, calm_none, calm_more, calm_number, calm_layout, calm_strings, calm_special, calm_keys, calm_nodes}

clears : (n : ℕ) → (n ≡ 21) ⊎ (n ≡ 22) → T (not (clearing n)) → ⊥
clears n (inl e) t = subst (λ (k : ℕ). T (not (clearing k))) e t
clears n (inr e) t = subst (λ (k : ℕ). T (not (clearing k))) e t

-- no check of xs is one of them, so it is one of those behind
behind : (xs ys : List Check) {n p : ℕ} → Calm xs → (n ≡ 21) ⊎ (n ≡ 22) → first_fault (xs ++ ys) ≡ Refused n p → first_fault ys ≡ Refused n p
behind xs ys {n} a c e = ⊎_elim (λ f. absurd (clears n c (calm_number xs a f))) (λ w. w.1) (append-refused xs ys e)

room_calm : (ed : Edition) (b : List ℕ) (room : ℕ) → Calm (room_checks ed b room)
unfolding room_checks
room_calm ed b room = calm_more _ _ _ _ _ tt calm_none

pub late_room : (ed : Edition) (b : List ℕ) (room : ℕ) {n p : ℕ} → verdict_of ed b room ≡ Refused n p → (n ≡ 21) ⊎ (n ≡ 22) → used_node_count ed b ≤ room
unfolding verdict_of accept_checks tree_checks room_checks
late_room ed b room {n} e c =
    let v = behind (layout_checks ed b) _ (calm_layout ed b) c e in
    let m = behind (string_checks (values ed b)) _ (calm_strings (values ed b)) c v in
    let s = behind (string_checks (names ed b)) _ (calm_strings (names ed b)) c m in
    let k = behind (special_checks ed b) _ (calm_special ed b) c s in
    let d = behind (all_key_checks ed b) _ (calm_keys ed b) c k in
    let t = behind (all_node_checks ed b) _ (calm_nodes ed b) c d in
    ⊎_elim (λ f. absurd (clears n c (calm_number (room_checks ed b room) (room_calm ed b room) f))) (λ w. (clean_inv _ _ _ _ _ w.0).0)
    (append-refused (room_checks ed b room) _ t)
