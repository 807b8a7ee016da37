-- Demand 1: the workspace byte by byte, and that every buffer keeps its length. Assumes nothing.
use Prim.Native.Nat.{ℕ, ◌/◌, ◌≤◌}
use native.Mathlib.Omega.{arith}
use native.Mathlib.Decide.{ℕ_discrete}
use mathlib.Core.Path.{◌≡◌, refl, ap, subst, sym, ◌∙◌}
use mathlib.Core.Logic.{◌⊎◌, inl, inr, ⊎_elim, by_cases}
use mathlib.Core.List.{List, [], ◌∷◌, ◌++◌}
use borrow.Author.Tests.{ne_eqb}
use lib.ListN.{length, get_or, drop}
use Rattle.verdict.specs.Checks.{Check, check, first_fault}
use Rattle.verdict.specs.Verdict.{Accepted, Refused}
use Rattle.verdict.proofs.Laws.{append_inv, clean_inv}
use Rattle.region.specs.Region.{Resolves, number_of}
use Rattle.layout.specs.Edition.{node_size}
use Rattle.layout.specs.Layout.{nodes_at}
use Rattle.layout.specs.declared.Edition.{Edition}
use Rattle.tree.specs.File.{address, used_node_count}
use Rattle.tree.specs.Marks.{is_child?, mark_by, cleared, marked}
use Rattle.tree.specs.Outcome.{workspace_after}
use Rattle.tree.proofs.Marking.{marked-rest}
use Rattle.tree.proofs.Bytes.{mark_iff, mark_zero, marked-at, marked-long, cleared_at, cleared-rest, cleared-long}
use Rattle.lookup.specs.declared.Lookup.{Lookup}
use Rattle.path.specs.Names.{names_of, path_checks}
use Rattle.path.specs.Listing.{path_matches, encode, listing_checks, listing_after}
use Rattle.path.proofs.Written.{length-encode}
use Rattle.batch.specs.Places.{places, place_checks, answers_after}
use Rattle.batch.proofs.Placed.{length-places}
use Rattle.outline.specs.Outline.{outline_of}
use Rattle.outline.specs.Outlined.{outline_checks, outline_after}
use Rattle.accept.specs.Verdict.{accept_checks, verdict_of}
use Rattle.accept.proofs.Accepted.{accepted_iff}
use Rattle.accept.proofs.Late.{late_room}
use Rattle.taplinen.specs.Questions.{workspace_left, accept_answer, path_verdict, path_listing, outline_verdict, outline_buffer}
use Rattle.taplinen.specs.Batches.{batch_verdict, name_places, value_places}
use Rattle.taplinen.specs.Demands.{SameLength, Workspace}
use Rattle.taplinen.proofs.Refusing.{verdict_cases, accepted_0, refused-number, zero-accepted, same-long, front_long}

-- ---- the workspace

module _ (ed : Edition) (b ws : List ℕ) where
  -- acceptance's own number
  abbrev number : ℕ
  number = (accept_answer ed b (length ws)).refusal

  left_accepted : verdict_of ed b (length ws) ≡ Accepted → workspace_left ed b ws ≡ marked ed b ws
  unfolding workspace_left workspace_after
  left_accepted e = rw e

  left_cleared : {n p : ℕ} → verdict_of ed b (length ws) ≡ Refused n p → (n ≡ 21) ⊎ (n ≡ 22) → workspace_left ed b ws ≡ cleared ed b ws
  unfolding workspace_left workspace_after
  left_cleared e (inl z) = rw (e, z)
  left_cleared e (inr z) = rw (e, z)

  left_kept : {n p : ℕ} → verdict_of ed b (length ws) ≡ Refused n p → (n ≡ 21 → ⊥) → (n ≡ 22 → ⊥) → workspace_left ed b ws ≡ ws
  unfolding workspace_left workspace_after
  left_kept {n} e f g = rw (e, ne_eqb n 21 f, ne_eqb n 22 g)

  -- the number is the verdict's
  number-of : {n p : ℕ} → verdict_of ed b (length ws) ≡ Refused n p → number ≡ n
  unfolding accept_answer
  number-of e = (refused-number 0 (used_node_count ed b) e).0

  number-zero : verdict_of ed b (length ws) ≡ Accepted → number ≡ 0
  unfolding accept_answer
  number-zero e = accepted_0 0 (used_node_count ed b) e

  accepted_by : number ≡ 0 → verdict_of ed b (length ws) ≡ Accepted
  unfolding accept_answer
  accepted_by z = zero-accepted ed b (length ws) 0 (used_node_count ed b) z

  -- what a refusal or an acceptance leaves
  abbrev Way : Type 0
  Way = (verdict_of ed b (length ws) ≡ Accepted) ⊎ ((n : ℕ) × (p : ℕ) × (verdict_of ed b (length ws) ≡ Refused n p))

  way : Way
  way = verdict_cases (verdict_of ed b (length ws))

  -- refused: by 21 or 22, or by another number
  late? : (n : ℕ) → ((n ≡ 21) ⊎ (n ≡ 22)) ⊎ ((n ≡ 21 → ⊥) × (n ≡ 22 → ⊥))
  late? n = by_cases (ℕ_discrete n 21) (λ e. inl (inl e)) (λ f. by_cases (ℕ_discrete n 22) (λ e. inl (inr e)) (λ g. inr (f, g)))

  marked_when : number ≡ 0 → (seg el : ℕ) → Resolves (node_size ed) b (nodes_at ed b) seg el
      → get_or (workspace_left ed b ws) (number_of (node_size ed) b (nodes_at ed b) seg el) 0 ≡ mark_by (is_child? ed b (address seg el))
  marked_when z seg el h =
      let e = accepted_by z in
      ap (λ (w : List ℕ). get_or w (number_of (node_size ed) b (nodes_at ed b) seg el) 0) (left_accepted e)
      ∙ marked-at ed b ws ((accepted_iff ed b (length ws)).0 e).0.laid.nodes seg el h

  cleared_when : (number ≡ 21) ⊎ (number ≡ 22) → workspace_left ed b ws ≡ cleared ed b ws
  cleared_when c =
      ⊎_elim
      (λ e. let z = number-zero e in absurd (⊎_elim (λ q. omega arith) (λ q. omega arith) c))
      (λ w. let q = number-of w.2 in left_cleared w.2 (⊎_elim (λ x. inl (sym q ∙ x)) (λ x. inr (sym q ∙ x)) c))
      way

  kept_when : (number ≡ 0 → ⊥) → (number ≡ 21 → ⊥) → (number ≡ 22 → ⊥) → workspace_left ed b ws ≡ ws
  kept_when f g h =
      ⊎_elim
      (λ e. absurd (f (number-zero e)))
      (λ w. let q = number-of w.2 in left_kept w.2 (λ x. g (q ∙ x)) (λ x. h (q ∙ x)))
      way

  -- what is said of each of the three is said of the workspace
  by_ways : (P : List ℕ → Type 0) → (verdict_of ed b (length ws) ≡ Accepted → P (marked ed b ws)) → (used_node_count ed b ≤ length ws → P (cleared ed b ws)) → P ws
      → P (workspace_left ed b ws)
  by_ways P f g h =
      ⊎_elim
      (λ e. subst P (sym (left_accepted e)) (f e))
      (λ w. ⊎_elim
      (λ c. subst P (sym (left_cleared w.2 c)) (g (late_room ed b (length ws) w.2 c)))
      (λ k. subst P (sym (left_kept w.2 k.0 k.1)) h)
      (late? w.0))
      way

  pub workspace : Workspace ed b ws
  workspace = record {
    one = λ z seg el h.
        let m = marked_when z seg el h in
        let d = mark_iff (is_child? ed b (address seg el)) in
        (λ e. d.0 (sym m ∙ e), λ c. m ∙ d.1 c);
    else_zero = λ z seg el h f. marked_when z seg el h ∙ mark_zero (is_child? ed b (address seg el)) f;
    cleared = λ c i h. ap (λ (w : List ℕ). get_or w i 0) (cleared_when c) ∙ cleared_at ed b ws i h;
    untouched = kept_when;
    later =
        by_ways (λ w. drop (used_node_count ed b) w ≡ drop (used_node_count ed b) ws)
        (λ e. marked-rest ed b ((accepted_iff ed b (length ws)).0 e).0.laid.nodes ws)
        (λ l. cleared-rest ed b ws)
        refl;
  }

  workspace-long : length (workspace_left ed b ws) ≡ length ws
  workspace-long =
      by_ways (λ w. length w ≡ length ws)
      (λ e. let r = (accepted_iff ed b (length ws)).0 e in marked-long ed b ws r.0.laid.nodes r.1)
      (λ l. cleared-long ed b ws l)
      refl

-- ---- the other buffers

-- the last check of a question that is answered held
last_held : (xs ys : List Check) (n p : ℕ) (P : Type 0) (d : Dec P) → first_fault (xs ++ (ys ++ (check n p P d ∷ []))) ≡ Accepted → P
last_held xs ys n p P d e = (clean_inv n p P d [] (append_inv ys _ (append_inv xs _ e).1).1).0

-- an answered question has room
module _ (ed : Edition) (b : List ℕ) (room : ℕ) where
  listing-room : (q d : List ℕ) → path_verdict ed b room q (length d) ≡ Accepted → length (path_matches ed b q) ≤ length d / 4
  unfolding path_verdict listing_checks
  listing-room q d e = last_held (accept_checks ed b room) (path_checks q) _ _ _ _ e

  places-room : (q d : List ℕ) → batch_verdict ed b room q (length d) ≡ Accepted → length (names_of q) ≤ length d / 8
  unfolding batch_verdict place_checks
  places-room q d e = last_held (accept_checks ed b room) (path_checks q) _ _ _ _ e

  outline-room : (d : List ℕ) → outline_verdict ed b room (length d) ≡ Accepted → length (outline_of ed b) ≤ length d
  unfolding outline_verdict outline_checks
  outline-room d e = (clean_inv _ _ _ _ _ (append_inv (accept_checks ed b room) _ e).1).0

  listing-long : (q d : List ℕ) → length (path_listing ed b room q d) ≡ length d
  unfolding path_listing listing_after
  listing-long q d =
      same-long d (listing_after ed b q d) (λ n p. refl) (path_verdict ed b room q (length d))
      (λ e. let l = listing-room q d e in front_long (encode (path_matches ed b q)) d (omega (arith, length-encode (path_matches ed b q))))

  places-long : (f : List ℕ → Lookup) (q d : List ℕ) → length (answers_after f q d (batch_verdict ed b room q (length d))) ≡ length d
  unfolding answers_after
  places-long f q d =
      same-long d (answers_after f q d) (λ n p. refl) (batch_verdict ed b room q (length d))
      (λ e. let l = places-room q d e in front_long (places f (names_of q)) d (omega (arith, length-places f (names_of q))))

  outline-long : (d : List ℕ) → length (outline_buffer ed b room d) ≡ length d
  unfolding outline_buffer outline_after
  outline-long d =
      same-long d (outline_after ed b d) (λ n p. refl) (outline_verdict ed b room (length d)) (λ e. front_long (outline_of ed b) d (outline-room d e))

  pub same_length : SameLength ed b room
  unfolding name_places value_places
  same_length = record {
    workspace = workspace-long ed b;
    listing = listing-long;
    names = λ q d. places-long _ q d;
    values = λ q d. places-long _ q d;
    outline = outline-long;
  }
