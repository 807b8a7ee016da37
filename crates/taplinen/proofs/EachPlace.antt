-- Many lookups in one acceptance, from one law: place i holds the kind and the value that the question for text i alone answers.
-- Assumes nothing.
use Prim.Native.Nat.{ℕ, ◌+◌, ◌*◌, ◌%◌, ◌^◌, ◌<◌}
use native.Mathlib.Omega.{arith}
use mathlib.Core.Path.{◌≡◌, sym, ap, ◌∙◌}
use mathlib.Core.List.{List}
use lib.ListN.{length}
use Rattle.verdict.specs.Verdict.{Accepted}
use Rattle.verdict.proofs.Laws.{append_inv}
use Rattle.le.specs.Le.{u32_at}
use Rattle.layout.specs.Layout.{values_most, names_most, values, names}
use Rattle.layout.specs.declared.Edition.{Edition}
use Rattle.strings.proofs.Accepted.{strings_iff}
use Rattle.lookup.specs.Lookup.{text_from}
use Rattle.lookup.specs.Kinds.{told_in, table_of, kind_of, told_number}
use Rattle.lookup.specs.declared.Kind.{Kind}
use Rattle.lookup.specs.declared.Kind.TheVariants.{Name, Value}
use Rattle.lookup.specs.declared.Lookup.{Lookup}
use Rattle.lookup.proofs.ByKind.{number-low}
use Rattle.path.specs.Names.{names_of, name_at}
use Rattle.batch.proofs.Told.{place-holds}
use Rattle.accept.specs.Verdict.{accept_checks, verdict_of}
use Rattle.accept.specs.Rules.{FileRules}
use Rattle.accept.proofs.Accepted.{accepted_iff}
use Rattle.taplinen.specs.Answers.{answered}
use Rattle.taplinen.specs.Questions.{text_answer, name_answer, value_answer}
use Rattle.taplinen.specs.Batches.{batch_verdict, batch_places, name_places, value_places, PlaceHolds}
use Rattle.taplinen.specs.declared.answer.Answer.{Answer}
use Rattle.taplinen.proofs.Held.{text-told}

-- an accepted file is shorter than 2 to the 32
names-small : (ed : Edition) (b : List ℕ) → FileRules ed b → length (names ed b).bytes < 2 ^ 32
unfolding names
names-small ed b r = omega (arith, r.laid.small)

values-small : (ed : Edition) (b : List ℕ) → FileRules ed b → length (values ed b).bytes < 2 ^ 32
unfolding values
values-small ed b r = omega (arith, r.laid.small)

-- what is told in an accepted file has 32 bits
told-low : (ed : Edition) (k : Kind) (b x : List ℕ) → FileRules ed b → told_number (told_in k (table_of ed k b) x) < 2 ^ 32
unfolding table_of values_most names_most
told-low ed Name b x r = number-low Name (names ed b) x ((strings_iff (names ed b)).1 r.name-table) r.laid.names (omega arith) (names-small ed b r)
told-low ed Value b x r = number-low Value (values ed b) x ((strings_iff (values ed b)).1 r.value-table) r.laid.values (omega arith) (values-small ed b r)

-- an answer holds a lookup's numbers
holds-told : (l : Lookup) (d : List ℕ) (i : ℕ) {r : Answer} → r ≡ answered Accepted (kind_of l) (told_number l) → (u32_at d (8 * i) ≡ kind_of l) × (u32_at d (8 * i + 4) ≡ told_number l)
    → PlaceHolds d i r
unfolding answered
holds-told l d i e w = record {
  asked = ap (λ (a : Answer). a.refusal) e;
  kind = w.0 ∙ sym (ap (λ (a : Answer). a.kind) e);
  value = w.1 ∙ sym (ap (λ (a : Answer). a.value) e);
}

module _ (ed : Edition) (b : List ℕ) (room : ℕ) (texts d : List ℕ) (ok : batch_verdict ed b room texts (length d) ≡ Accepted) (i : ℕ) (h : i < length (names_of texts)) where
  file_accepted : verdict_of ed b room ≡ Accepted
  unfolding batch_verdict verdict_of
  file_accepted = (append_inv (accept_checks ed b room) _ ok).0

  -- q is any bytes of text i
  module _ (q : List ℕ) (even : length q % 2 ≡ 0) (same : text_from q ≡ name_at (names_of texts) i) where
    place-told : (k : Kind) → PlaceHolds (batch_places ed k b room texts d) i (text_answer ed k b room q)
    unfolding batch_places
    place-told k =
        let x : List ℕ = name_at (names_of texts) i in
        let w = place-holds (told_in k (table_of ed k b)) texts d i h (told-low ed k b x ((accepted_iff ed b room).0 file_accepted).0) in
        rw ok
        (holds-told (told_in k (table_of ed k b) x) _ i
        (text-told ed k b room q file_accepted even ∙ ap (λ (y : List ℕ). answered Accepted (kind_of (told_in k (table_of ed k b) y)) (told_number (told_in k (table_of ed k b) y))) same)
        w)

    pub name-place : PlaceHolds (name_places ed b room texts d) i (name_answer ed b room q)
    unfolding name_places batch_places name_answer text_answer told_in table_of
    name-place = place-told Name

    pub value-place : PlaceHolds (value_places ed b room texts d) i (value_answer ed b room q)
    unfolding value_places batch_places value_answer text_answer told_in table_of
    value-place = place-told Value
