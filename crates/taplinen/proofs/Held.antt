-- Code that holds the view of an accepted file and asks without a second check is told what the exported questions answer: the laws tie
-- what the contracts of the held forms say, on a table that is lent, to the exported definitions. Assumes nothing.
use Prim.Native.Nat.{ℕ, ◌%◌}
use mathlib.Core.Path.{◌≡◌, refl, sym, ap, ◌∙◌}
use mathlib.Core.List.{List}
use lib.ListN.{length}
use Rattle.std.specs.Prelude.{Result}
use Rattle.std.specs.Result.{result_unwrap_or}
use Rattle.verdict.specs.Verdict.{Accepted, answer_of}
use Rattle.verdict.specs.declared.Refusal.{Refusal}
use Rattle.layout.specs.inner.View.{Fits}
use Rattle.layout.specs.declared.View.{View}
use Rattle.layout.specs.Layout.{values, names}
use Rattle.layout.specs.Table.{Table}
use Rattle.layout.specs.declared.Edition.{Edition}
use Rattle.strings.specs.inner.Held.{held_table}
use Rattle.nodes.specs.inner.Held.{value_strings}
use Rattle.lookup.specs.Lookup.{text_from}
use Rattle.lookup.specs.Asked.{text_checks}
use Rattle.lookup.specs.Kinds.{told_in, table_of, kind_of, told_number}
use Rattle.lookup.specs.declared.Kind.{Kind}
use Rattle.lookup.specs.declared.Kind.TheVariants.{Name, Value}
use Rattle.lookup.specs.declared.Lookup.{Lookup}
use Rattle.path.specs.Listing.{listing_after}
use Rattle.path.specs.inner.Answer.{PathListed}
use Rattle.batch.specs.Places.{answers_after}
use Rattle.batch.specs.inner.Answer.{Answered}
use Rattle.outline.specs.Outlined.{outline_after}
use Rattle.outline.specs.inner.Answer.{OutlineWritten}
use Rattle.accept.specs.Verdict.{verdict_of}
use Rattle.accept.specs.inner.Held.{name_strings}
use Rattle.accept.proofs.Held.{values-table, names_table}
use Rattle.taplinen.specs.Answers.{answered}
use Rattle.taplinen.specs.Questions.{text_verdict, text_answer, name_answer, value_answer, path_verdict, path_answer, path_listing, outline_verdict, outline_answer, outline_buffer}
use Rattle.taplinen.specs.Batches.{batch_verdict, batch_answer, batch_places, name_places, value_places}
use Rattle.taplinen.proofs.Laws.{text-even}
use Rattle.taplinen.proofs.Filled.{own_answer, own_told}

-- an accepted file asked for a text of an even number of bytes
pub text-told : (ed : Edition) (k : Kind) (b : List ℕ) (room : ℕ) (q : List ℕ) → verdict_of ed b room ≡ Accepted → length q % 2 ≡ 0
    → let l = told_in k (table_of ed k b) (text_from q) in text_answer ed k b room q ≡ answered Accepted (kind_of l) (told_number l)
unfolding text_answer text_verdict
text-told ed k b room q e even = sym (own_answer ed b room (text_checks q) _ _ e (text-even q even) (λ z. (refl, refl)) refl)

module _ (ed : Edition) (b : List ℕ) (room : ℕ) (e : verdict_of ed b room ≡ Accepted) where
  -- lookup::find_text
  module _ (q : List ℕ) (even : length q % 2 ≡ 0) where
    told-by : (k : Kind) {t : Table} {l : Lookup} → t ≡ table_of ed k b → l ≡ told_in k t (text_from q) → text_answer ed k b room q ≡ answered Accepted (kind_of l) (told_number l)
    told-by k s h =
        text-told ed k b room q e even
        ∙ sym (ap (λ (x : Lookup). answered Accepted (kind_of x) (told_number x)) (h ∙ ap (λ (y : Table). told_in k y (text_from q)) s))

    pub held_name : {t : Table} {l : Lookup} → t ≡ names ed b → l ≡ told_in Name t (text_from q)
        → name_answer ed b room q ≡ answered Accepted (kind_of l) (told_number l)
    unfolding name_answer text_answer told_in table_of
    held_name s h = told-by Name s h

    pub held_value : {t : Table} {l : Lookup} → t ≡ values ed b → l ≡ told_in Value t (text_from q)
        → value_answer ed b room q ≡ answered Accepted (kind_of l) (told_number l)
    unfolding value_answer text_answer told_in table_of
    held_value s h = told-by Value s h

  -- path::listing::list_path
  pub held_path : (path list : List ℕ) {r : Result ℕ Refusal} → PathListed ed b path (length list) r
      → (path_answer ed b room path (length list) ≡ answered (answer_of r) 0 (result_unwrap_or r 0)) × (path_listing ed b room path list ≡ listing_after ed b path list (answer_of r))
  unfolding path_answer path_listing path_verdict
  held_path path list {r} h = own_told ed b room _ _ (listing_after ed b path list) {r = r} e h

  -- outline::write_outline
  pub held_outline : (out : List ℕ) {r : Result ℕ Refusal} → OutlineWritten ed b (length out) r
      → (outline_answer ed b room (length out) ≡ answered (answer_of r) 0 (result_unwrap_or r 0)) × (outline_buffer ed b room out ≡ outline_after ed b out (answer_of r))
  unfolding outline_answer outline_buffer outline_verdict
  held_outline out {r} h = own_told ed b room _ _ (outline_after ed b out) {r = r} e h

  -- batch::find_each
  module _ (texts d : List ℕ) {r : Result ℕ Refusal} (h : Answered texts (length d) r) where
    each_by : (k : Kind) {t : Table} → t ≡ table_of ed k b
        → (batch_answer ed b room texts (length d) ≡ answered (answer_of r) 0 (result_unwrap_or r 0)) × (batch_places ed k b room texts d ≡ answers_after (told_in k t) texts d (answer_of r))
    unfolding batch_answer batch_places batch_verdict
    each_by k s =
        let w = own_told ed b room _ _ (answers_after (told_in k (table_of ed k b)) texts d) {r = r} e h in
        (w.0, w.1 ∙ sym (ap (λ (y : Table). answers_after (told_in k y) texts d (answer_of r)) s))

    pub held_names : {t : Table} → t ≡ names ed b → (batch_answer ed b room texts (length d) ≡ answered (answer_of r) 0 (result_unwrap_or r 0))
        × (name_places ed b room texts d ≡ answers_after (told_in Name t) texts d (answer_of r))
    unfolding name_places batch_places told_in table_of
    held_names s = each_by Name s

    pub held_values : {t : Table} → t ≡ values ed b → (batch_answer ed b room texts (length d) ≡ answered (answer_of r) 0 (result_unwrap_or r 0))
        × (value_places ed b room texts d ≡ answers_after (told_in Value t) texts d (answer_of r))
    unfolding value_places batch_places told_in table_of
    held_values s = each_by Value s

-- the same of the tables as a view has them
module _ (ed : Edition) (b : List ℕ) (room : ℕ) (v : View) (f : Fits ed b v) (e : verdict_of ed b room ≡ Accepted) where
  module _ (q : List ℕ) (even : length q % 2 ≡ 0) where
    pub viewed_name : {l : Lookup} → l ≡ told_in Name (held_table b (name_strings v.places) v.name_buckets) (text_from q)
        → name_answer ed b room q ≡ answered Accepted (kind_of l) (told_number l)
    viewed_name h = held_name ed b room e q even (names_table ed b v f) h

    pub viewed_value : {l : Lookup} → l ≡ told_in Value (held_table b (value_strings v.places) v.value_buckets) (text_from q)
        → value_answer ed b room q ≡ answered Accepted (kind_of l) (told_number l)
    viewed_value h = held_value ed b room e q even (values-table ed b v f) h

  module _ (texts d : List ℕ) {r : Result ℕ Refusal} (h : Answered texts (length d) r) where
    pub viewed_names : (batch_answer ed b room texts (length d) ≡ answered (answer_of r) 0 (result_unwrap_or r 0))
        × (name_places ed b room texts d ≡ answers_after (told_in Name (held_table b (name_strings v.places) v.name_buckets)) texts d (answer_of r))
    viewed_names = held_names ed b room e texts d h (names_table ed b v f)

    pub viewed_values : (batch_answer ed b room texts (length d) ≡ answered (answer_of r) 0 (result_unwrap_or r 0))
        × (value_places ed b room texts d ≡ answers_after (told_in Value (held_table b (value_strings v.places) v.value_buckets)) texts d (answer_of r))
    viewed_values = held_values ed b room e texts d h (values-table ed b v f)
