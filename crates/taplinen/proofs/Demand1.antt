-- Demand 1: one numbered refusal, buffers as they were, lengths kept. Assumes nothing.
use Prim.Native.Nat.{ℕ}
use mathlib.Core.Path.{◌≡◌, refl}
use mathlib.Core.Logic.{◌⊎◌, inl, inr}
use mathlib.Core.List.{List, ◌++◌}
use Rattle.verdict.specs.Verdict.{Verdict}
use Rattle.verdict.specs.Verdict.{Accepted, Refused}
use Rattle.verdict.proofs.Broken.{AllOf, all_none, all_more, all_append}
use Rattle.layout.specs.Header.{header_of}
use Rattle.layout.specs.declared.Edition.{Edition}
use Rattle.lookup.specs.Asked.{text_checks}
use Rattle.path.specs.Names.{path_checks}
use Rattle.path.specs.Listing.{listing_checks, listing_after}
use Rattle.batch.specs.Places.{place_checks, answers_after}
use Rattle.outline.specs.Outlined.{outline_checks, outline_after}
use Rattle.accept.specs.Verdict.{verdict_of}
use Rattle.taplinen.specs.Answers.{answered, reported}
use Rattle.taplinen.specs.Questions.{accept_answer, header_answer, text_verdict, name_answer, value_answer, path_verdict, path_answer, path_listing, outline_verdict, outline_answer, outline_buffer}
use Rattle.taplinen.specs.Batches.{batch_verdict, batch_answer, name_places, value_places}
use Rattle.taplinen.specs.Demands.{Refuses, OneOf, OfFile, Numbers, AcceptsFirst, Untouched}
use Rattle.taplinen.proofs.Demand2.{accept-refused}
use Rattle.taplinen.proofs.Refusing.{refuses_first, file_number, question_number, refused-kept}

-- ---- the numbers of the questions' own checks

text_own : (q : List ℕ) → AllOf (λ n p P. (P → ⊥) → n ≡ 24) (text_checks q)
unfolding text_checks
text_own q = all_more _ _ _ _ _ _ (λ f. refl) (all_none _)

path_own : (Q : ℕ → Type 0) → Q 24 → (q : List ℕ) → AllOf (λ n p P. (P → ⊥) → Q n) (path_checks q)
unfolding path_checks
path_own Q x q = all_more _ _ _ _ _ _ (λ f. x) (all_more _ _ _ _ _ _ (λ f. x) (all_none _))

-- 24 or 25
abbrev Two : ℕ → Type 0
Two n = (n ≡ 24) ⊎ (n ≡ 25)

listing_own : (ed : Edition) (b q : List ℕ) (room : ℕ) → AllOf (λ n p P. (P → ⊥) → Two n) (path_checks q ++ listing_checks ed b q room)
unfolding listing_checks
listing_own ed b q room = all_append _ _ _ (path_own Two (inl refl) q) (all_more _ _ _ _ _ _ (λ f. inr refl) (all_none _))

place_own : (q : List ℕ) (room : ℕ) → AllOf (λ n p P. (P → ⊥) → Two n) (path_checks q ++ place_checks q room)
unfolding place_checks
place_own q room = all_append _ _ _ (path_own Two (inl refl) q) (all_more _ _ _ _ _ _ (λ f. inr refl) (all_none _))

outline_own : (ed : Edition) (b : List ℕ) (room : ℕ) → AllOf (λ n p P. (P → ⊥) → n ≡ 26) (outline_checks ed b room)
unfolding outline_checks
outline_own ed b room = all_more _ _ _ _ _ _ (λ f. refl) (all_none _)

module _ (ed : Edition) (b : List ℕ) (room : ℕ) where
  accept-one : (v : Verdict) → verdict_of ed b room ≡ v → (k m : ℕ) → OneOf OfFile (answered v k m).refusal
  unfolding answered
  accept-one Accepted e k m = inl refl
  accept-one (Refused n p) e k m = inr (file_number ed b room e)

  header-one : (v : Verdict) → verdict_of ed b room ≡ v → OneOf OfFile (reported v (header_of b)).refusal
  unfolding reported
  header-one Accepted e = inl refl
  header-one (Refused n p) e = inr (file_number ed b room e)

  pub numbers : Numbers ed b room
  unfolding accept_answer header_answer name_answer value_answer text_verdict path_answer path_verdict batch_answer batch_verdict outline_answer outline_verdict
  numbers = record {
    accept = accept-one (verdict_of ed b room) refl _ _;
    header = header-one (verdict_of ed b room) refl;
    name = λ q. question_number ed b room (text_checks q) (λ n. n ≡ 24) (text_own q) _ _;
    value = λ q. question_number ed b room (text_checks q) (λ n. n ≡ 24) (text_own q) _ _;
    path = λ q list. question_number ed b room (path_checks q ++ listing_checks ed b q list) Two (listing_own ed b q list) _ _;
    texts = λ q answers. question_number ed b room (path_checks q ++ place_checks q answers) Two (place_own q answers) _ _;
    outline = λ out. question_number ed b room (outline_checks ed b out) (λ n. n ≡ 26) (outline_own ed b out) _ _;
  }

  pub untouched : Untouched ed b room
  unfolding path_answer path_listing batch_answer name_places value_places outline_answer outline_buffer listing_after answers_after outline_after
  untouched = record {
    listing = λ q d f. refused-kept d (listing_after ed b q d) (λ n p. refl) _ _ _ f;
    names = λ q d f. refused-kept d (answers_after _ q d) (λ n p. refl) _ _ _ f;
    values = λ q d f. refused-kept d (answers_after _ q d) (λ n p. refl) _ _ _ f;
    outline = λ d f. refused-kept d (outline_after ed b d) (λ n p. refl) _ _ _ f;
  }

  -- acceptance comes first
  header_refused : {n p : ℕ} → verdict_of ed b room ≡ Refused n p → ((header_answer ed b room).refusal ≡ n) × ((header_answer ed b room).place ≡ p)
  unfolding header_answer reported
  header_refused e = (rw e, rw e)

  pub accepts_first : (n p : ℕ) → Refuses (accept_answer ed b room) n p → AcceptsFirst ed b room n p
  unfolding name_answer value_answer text_verdict path_answer path_verdict batch_answer batch_verdict outline_answer outline_verdict
  accepts_first n p r =
      let z = r.not_0 in
      let e = accept-refused ed b room n p r in
      record {
        header = header_refused e;
        name = λ q. refuses_first ed b room _ _ _ z e;
        value = λ q. refuses_first ed b room _ _ _ z e;
        path = λ q list. refuses_first ed b room _ _ _ z e;
        texts = λ q answers. refuses_first ed b room _ _ _ z e;
        outline = λ out. refuses_first ed b room _ _ _ z e;
      }
