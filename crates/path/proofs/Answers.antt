-- What path listing answers on each way out, and the matches as the code finds them. Assumes nothing.
use mathlib.Core.Path.{◌≡◌, refl, sym, ap, subst, ◌∙◌}
use mathlib.Core.Logic.{⊎_elim}
use mathlib.Core.List.{List, [], ◌++◌}
use Prim.Native.Nat.{ℕ, ◌+◌, ◌*◌, ◌/◌, ◌≤◌, ◌<◌}
use native.Mathlib.Nat.{zero-add}
use native.Mathlib.Omega.{arith}
use lib.ListN.{length, take, drop}
use lib.Seq.{length-take-le, get_or-take}
use Rattle.laws.specs.inner.Lists.{splice}
use Rattle.verdict.specs.Checks.{first_fault}
use Rattle.std.specs.Prelude.{Result, Ok, Err}
use Rattle.std.specs.Result.{IsErrAnd}
use Rattle.std.proofs.lemmas.Result.{err_from_is_err_and}
use Rattle.verdict.specs.Verdict.{Refused, refused, answer_of}
use Rattle.verdict.specs.declared.Refusal.{Refusal}
use Rattle.verdict.specs.declared.Rule.TheVariants.{AnswerRoom}
use Rattle.verdict.proofs.Gives.{gives_ok, gives_err}
use Rattle.verdict.proofs.Laws.{Clean, fault_keep}
use Rattle.layout.specs.Layout.{names}
use Rattle.layout.specs.declared.Edition.{Edition}
use Rattle.strings.proofs.Accepted.{strings_iff}
use Rattle.tree.specs.File.{tree_of}
use Rattle.accept.specs.Rules.{FileRules}
use Rattle.path.specs.Names.{names_of, path_checks}
use Rattle.path.specs.Listing.{path_matches, encode, listing_after}
use Rattle.path.specs.inner.Indices.{matches_at, Unborne, WantedIs}
use Rattle.path.specs.inner.Answer.{PathListed}
use Rattle.path.specs.declared.names.Wanted.{Wanted}
use Rattle.path.proofs.Demand.{room_fits, room_over}
use Rattle.path.proofs.Bearers.{one_name}
use Rattle.path.proofs.Indices.{unknown_none, long-none, matches_by_index}

-- the answer, and the listing afterwards
abbrev pub Answered : Edition → List ℕ → List ℕ → List ℕ → Result ℕ Refusal → List ℕ → Type 0
Answered ed b path list r list' = PathListed ed b path (length list) r × (list' ≡ listing_after ed b path list (answer_of r))

module _ (ed : Edition) (b path list : List ℕ) where
  -- by a `?`
  pub path-refused : (a : Result ℕ Refusal) (r : Refusal) → IsErrAnd a (λ q. q ≡ r) → first_fault (path_checks path) ≡ refused r → Answered ed b path list a list
  unfolding listing_after
  path-refused a r h e = let q = err_from_is_err_and a h in rw (q.1, q.2) (gives_err (fault_keep _ _ e), refl)

  module _ (ok : Clean (path_checks path)) where
    pub too_many : (k : ℕ) → k ≡ length (path_matches ed b path) → length list / 4 < k → Answered ed b path list (Err (record { 0 = AnswerRoom; 1 = k })) list
    unfolding listing_after
    too_many k e h = (gives_err (room_over ed b path (length list) ok (omega arith) ∙ ap (Refused 25) (sym e)), refl)

    pub all_listed : (m : ℕ) (l list' : List ℕ) → l ≡ path_matches ed b path → length l ≤ length list / 4 → m ≡ 0 + length l
        → list' ≡ splice list (4 * 0) (encode l) → Answered ed b path list (Ok m) list'
    unfolding listing_after splice
    all_listed m l list' e h q s = (
      gives_ok
          (room_fits ed b path (length list) ok (subst (λ (x : List ℕ). length x ≤ length list / 4) e h))
          (q ∙ zero-add (length l) ∙ ap length e),
      s ∙ ap (λ (k : ℕ). encode l ++ drop k list) (zero-add (length (encode l))) ∙ ap (λ (x : List ℕ). encode x ++ drop (length (encode x)) list) e,
    )

    pub none_match : path_matches ed b path ≡ [] → Answered ed b path list (Ok 0) list
    unfolding listing_after encode
    none_match e = (
      gives_ok (room_fits ed b path (length list) ok (omega (arith, ap length e))) (sym (ap length e)),
      sym (ap (λ (x : List ℕ). encode x ++ drop (length (encode x)) list) e),
    )

module _ (ed : Edition) (b path : List ℕ) (r : FileRules ed b) where
  pub unborne-none : Unborne ed b path → path_matches ed b path ≡ []
  unborne-none u = ⊎_elim (λ x. long-none ed b r path x.1) (λ x. unknown_none ed b r path u.count x.0 x.1) u.none

  pub wanted-matches : {w : Wanted} {d : List ℕ} → d ≡ b → WantedIs ed b path w → matches_at (tree_of ed d) (take w.count w.indices) 0 ≡ path_matches ed b path
  unfolding path_matches
  wanted-matches {w} e h =
      rw e (let l = length-take-le w.count w.indices (omega (arith, h.few, h.long)) in
      sym
      (matches_by_index ed b r (λ i k x. one_name ed b x ((strings_iff (names ed b)).1 r.name-table) i k) (names_of path) _
      (record { many = l ∙ h.many; each = λ i m. rw (get_or-take w.count w.indices i 0 (omega (arith, h.many))) (h.index i (omega (arith, h.many))) })
      0 r.nodes.root))
