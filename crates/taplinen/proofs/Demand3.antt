-- Demand 3, the outline in the same shape, and many lookups at once. Assumes nothing.
use Prim.Native.Nat.{ℕ, ◌*◌, ◌/◌, ◌%◌, ◌≤◌, ◌<◌}
use native.Mathlib.Omega.{arith}
use native.Mathlib.Decide.{ℕ_discrete}
use mathlib.Core.Path.{◌≡◌, refl, ap, sym, ◌∙◌}
use mathlib.Core.Logic.{by_cases}
use mathlib.Core.List.{List, [], ◌++◌}
use lib.ListN.{length, drop, take}
use lib.Seq.{take_at}
use Rattle.verdict.specs.Checks.{Check, first_fault}
use Rattle.verdict.specs.Verdict.{Accepted, Refused}
use Rattle.verdict.proofs.Laws.{Clean, pass, stop, fault_none, fault_append, fault_keep}
use Rattle.layout.specs.declared.Edition.{Edition}
use Rattle.lookup.specs.declared.Lookup.{Lookup}
use Rattle.path.specs.Names.{names_of, path_checks}
use Rattle.path.specs.Listing.{path_matches, encode, listing_checks, listing_after}
use Rattle.path.proofs.Listed.{listed}
use Rattle.path.proofs.Demand.{place-holds}
use Rattle.path.proofs.Written.{length-encode}
use Rattle.batch.specs.Places.{places, place_checks, answers_after}
use Rattle.batch.proofs.Own.{own_bytes}
use Rattle.batch.proofs.Placed.{length-places}
use Rattle.outline.specs.Outline.{outline_of}
use Rattle.outline.specs.Outlined.{outline_checks, outline_after}
use Rattle.outline.proofs.Listed.{outline-lines}
use Rattle.accept.specs.Verdict.{accept_checks, verdict_of}
use Rattle.accept.specs.Rules.{FileRules}
use Rattle.accept.proofs.Accepted.{accepted_iff}
use Rattle.taplinen.specs.Answers.{answered}
use Rattle.taplinen.specs.Questions.{accept_answer, text_verdict, name_answer, value_answer, path_verdict, path_answer, path_listing, outline_verdict, outline_answer, outline_buffer}
use Rattle.taplinen.specs.Batches.{batch_verdict, batch_answer, name_places, value_places}
use Rattle.taplinen.specs.Demands.{Refuses, WellFormed, Malformed, Batch, Paths, Outlines}
use Rattle.taplinen.proofs.Laws.{text_odd}
use Rattle.taplinen.proofs.EachPlace.{name-place, value-place}
use Rattle.taplinen.proofs.Demand2.{accept-zero}
use Rattle.taplinen.proofs.Refusing.{verdict_answers, verdict_refuses, front_after, room_fits, room_over, outnumber}

-- 24 is not given
well_formed : (q : List ℕ) → WellFormed q → Clean (path_checks q)
unfolding path_checks
well_formed q w = pass _ _ _ _ _ w.0 ∙ pass _ _ _ _ _ w.1 ∙ fault_none

-- or it is
ill_formed : (q : List ℕ) → (WellFormed q → ⊥) → first_fault (path_checks q) ≡ Refused 24 (length q)
unfolding path_checks
ill_formed q f =
    by_cases (ℕ_discrete (length q % 2) 0)
    (λ e. pass _ _ _ _ _ e ∙ stop _ _ _ _ _ (λ c. f (e, c)))
    (λ o. stop _ _ _ _ _ o)

module _ (ed : Edition) (b : List ℕ) (room : ℕ) (z : (accept_answer ed b room).refusal ≡ 0) where
  file : verdict_of ed b room ≡ Accepted
  file = accept-zero ed b room z

  clean : Clean (accept_checks ed b room)
  unfolding verdict_of
  clean = file

  rules : FileRules ed b
  rules = ((accepted_iff ed b room).0 file).0

  -- ---- 24

  -- a question whose own checks refuse
  own_refused : (cs ds : List Check) {n p : ℕ} (k m : ℕ) → (n ≡ 0 → ⊥) → first_fault cs ≡ Refused n p
      → Refuses (answered (first_fault (accept_checks ed b room ++ (cs ++ ds))) k m) n p
  own_refused cs ds k m z e = verdict_refuses k m z (fault_append (accept_checks ed b room) _ clean ∙ fault_keep cs ds e)

  pub malformed : (q : List ℕ) → Malformed ed b room q
  unfolding name_answer value_answer text_verdict path_answer path_verdict batch_answer batch_verdict
  malformed q = record {
    name = λ f. verdict_refuses _ _ (λ e. omega arith) (fault_append (accept_checks ed b room) _ clean ∙ sym (text_odd q f));
    value = λ f. verdict_refuses _ _ (λ e. omega arith) (fault_append (accept_checks ed b room) _ clean ∙ sym (text_odd q f));
    path = λ f list. own_refused (path_checks q) _ _ _ (λ e. omega arith) (ill_formed q f);
    texts = λ f answers. own_refused (path_checks q) _ _ _ (λ e. omega arith) (ill_formed q f);
  }

  -- ---- many lookups

  module _ (q d : List ℕ) (w : WellFormed q) where
    abbrev texts : ℕ
    texts = length (names_of q)

    all_fit : texts ≤ length d / 8 → batch_verdict ed b room q (length d) ≡ Accepted
    unfolding batch_verdict place_checks
    all_fit l = room_fits (accept_checks ed b room) (path_checks q) clean (well_formed q w) 25 texts (length d / 8) l

    too_many : length d / 8 < texts → batch_verdict ed b room q (length d) ≡ Refused 25 texts
    unfolding batch_verdict place_checks
    too_many l = room_over (accept_checks ed b room) (path_checks q) clean (well_formed q w) 25 texts (length d / 8) l

    places-after : (f : List ℕ → Lookup) → texts ≤ length d / 8 → drop (8 * texts) (answers_after f q d (batch_verdict ed b room q (length d))) ≡ drop (8 * texts) d
    unfolding answers_after
    places-after f l = rw (all_fit l) (front_after (places f (names_of q)) d (8 * texts) (length-places f (names_of q)))

    pub batch : Batch ed b room q d
    unfolding batch_answer name_places value_places
    batch = record {
      room-short = outnumber (batch_verdict ed b room q (length d)) 0 texts 25 texts (length d / 8) (λ e. omega arith) all_fit too_many;
      answered = λ l. verdict_answers 0 texts (all_fit l);
      text = λ i h. let o = own_bytes q i h in (take (2 * o.1) (drop o.0 q), record { even = omega (arith, o.3); text = o.4 });
      name = λ l i h s t. name-place ed b room q d (all_fit l) i h s t.even t.text;
      value = λ l i h s t. value-place ed b room q d (all_fit l) i h s t.even t.text;
      names-after = places-after _;
      values-after = places-after _;
    }

  -- ---- paths

  module _ (q d : List ℕ) (w : WellFormed q) where
    abbrev many : ℕ
    many = length (path_matches ed b q)

    matches_fit : many ≤ length d / 4 → path_verdict ed b room q (length d) ≡ Accepted
    unfolding path_verdict listing_checks
    matches_fit l = room_fits (accept_checks ed b room) (path_checks q) clean (well_formed q w) 25 many (length d / 4) l

    matches_over : length d / 4 < many → path_verdict ed b room q (length d) ≡ Refused 25 many
    unfolding path_verdict listing_checks
    matches_over l = room_over (accept_checks ed b room) (path_checks q) clean (well_formed q w) 25 many (length d / 4) l

    listing_is : many ≤ length d / 4 → path_listing ed b room q d ≡ listing_after ed b q d Accepted
    unfolding path_listing
    listing_is l = ap (listing_after ed b q d) (matches_fit l)

    listing-kept : length d / 4 < many → path_listing ed b room q d ≡ d
    unfolding path_listing listing_after
    listing-kept l = ap (listing_after ed b q d) (matches_over l)

    listing-rest : drop (4 * many) (listing_after ed b q d Accepted) ≡ drop (4 * many) d
    unfolding listing_after
    listing-rest = front_after (encode (path_matches ed b q)) d (4 * many) (length-encode (path_matches ed b q))

    pub paths : Paths ed b room q d
    unfolding path_answer
    paths = record {
      matches = path_matches ed b q;
      listed = listed ed b rules q;
      room-short = outnumber (path_verdict ed b room q (length d)) 0 many 25 many (length d / 4) (λ e. omega arith) matches_fit matches_over;
      kept = listing-kept;
      answered = λ l. verdict_answers 0 many (matches_fit l);
      holds = λ l i h. rw (listing_is l) (place-holds ed b q d rules i h);
      after = λ l. ap (drop (4 * many)) (listing_is l) ∙ listing-rest;
    }

  -- ---- the outline

  module _ (d : List ℕ) where
    abbrev long : ℕ
    long = length (outline_of ed b)

    outline_fit : long ≤ length d → outline_verdict ed b room (length d) ≡ Accepted
    unfolding outline_verdict outline_checks
    outline_fit l = room_fits (accept_checks ed b room) [] clean fault_none 26 long (length d) l

    outline_over : length d < long → outline_verdict ed b room (length d) ≡ Refused 26 long
    unfolding outline_verdict outline_checks
    outline_over l = room_over (accept_checks ed b room) [] clean fault_none 26 long (length d) l

    buffer_is : long ≤ length d → outline_buffer ed b room d ≡ outline_after ed b d Accepted
    unfolding outline_buffer
    buffer_is l = ap (outline_after ed b d) (outline_fit l)

    buffer_front : take long (outline_after ed b d Accepted) ≡ outline_of ed b
    unfolding outline_after
    buffer_front = take_at (outline_of ed b) (drop long d) long refl

    buffer_rest : drop long (outline_after ed b d Accepted) ≡ drop long d
    unfolding outline_after
    buffer_rest = front_after (outline_of ed b) d long refl

    pub outlines : Outlines ed b room d
    unfolding outline_answer
    outlines = record {
      chains = _;
      lined = outline-lines ed b rules;
      room-short = outnumber (outline_verdict ed b room (length d)) 0 long 26 long (length d) (λ e. omega arith) outline_fit outline_over;
      answered = λ l. verdict_answers 0 long (outline_fit l);
      holds = λ l. ap (take long) (buffer_is l) ∙ buffer_front;
      after = λ l. ap (drop long) (buffer_is l) ∙ buffer_rest;
    }
