-- Demand 2: acceptance exactly by the rules, refusal for the first fault, and lookups exactly by the entries. Assumes nothing.
use Prim.Native.Nat.{ℕ, ◌%◌}
use native.Mathlib.Omega.{arith}
use mathlib.Core.Path.{◌≡◌, refl, ap, sym, ◌∙◌}
use mathlib.Core.Logic.{◌↔◌}
use mathlib.Core.List.{List}
use lib.ListN.{length}
use Rattle.verdict.specs.Checks.{FirstBroken}
use Rattle.verdict.specs.Verdict.{Accepted, Refused}
use Rattle.verdict.proofs.Broken.{broken_iff}
use Rattle.le.specs.Floats.{double_at}
use Rattle.hash.specs.Hash.{hash_text}
use Rattle.layout.specs.Header.{header_of}
use Rattle.layout.specs.Table.{Table, index_of, segment_of, element_of}
use Rattle.layout.specs.Layout.{values, names}
use Rattle.layout.specs.declared.Edition.{Edition}
use Rattle.strings.proofs.Accepted.{strings_iff}
use Rattle.tree.specs.File.{address, used_node_count}
use Rattle.lookup.specs.Collisions.{hash_count}
use Rattle.lookup.specs.Cases.{Collides, Missing}
use Rattle.lookup.specs.Lookup.{text_from, BorneWith, index_of_text, address_of_text}
use Rattle.lookup.specs.Kinds.{told_in, table_of, kind_of, told_number}
use Rattle.lookup.specs.declared.Kind.TheVariants.{Name, Value}
use Rattle.lookup.specs.declared.Lookup.{Lookup}
use Rattle.lookup.specs.declared.Lookup.TheVariants.{Found, Collided, Absent}
use Rattle.lookup.proofs.Found.{one_of_three, zero_missing, index_found_iff, index_collided_iff, index_absent_iff, address_found_iff, address_collided_iff, address_absent_iff}
use Rattle.accept.specs.Verdict.{accept_checks, verdict_of}
use Rattle.accept.specs.Rules.{FileRules}
use Rattle.accept.proofs.Accepted.{accepted_iff}
use Rattle.accept.proofs.Rows.{refused-row}
use Rattle.accept.proofs.Complete.{none-broken}
use Rattle.taplinen.specs.Answers.{answered, reported}
use Rattle.taplinen.specs.Questions.{accept_answer, header_answer, text_answer, name_answer, value_answer}
use Rattle.taplinen.specs.Demands.{Refuses, Answers, Acceptance, Reports, Finds, Lookups}
use Rattle.taplinen.specs.declared.answer.Answer.{Answer}
use Rattle.taplinen.proofs.Held.{text-told}
use Rattle.taplinen.proofs.Refusing.{verdict_answers, verdict_refuses, refuses_verdict, file_number, zero-accepted}

-- ---- the first sentence

module _ (ed : Edition) (b : List ℕ) (room : ℕ) where
  pub accept-zero : (accept_answer ed b room).refusal ≡ 0 → verdict_of ed b room ≡ Accepted
  unfolding accept_answer
  accept-zero z = zero-accepted ed b room 0 (used_node_count ed b) z

  zero-accept : verdict_of ed b room ≡ Accepted → Answers (accept_answer ed b room) (used_node_count ed b)
  unfolding accept_answer
  zero-accept e = verdict_answers 0 (used_node_count ed b) e

  pub accept-refused : (n p : ℕ) → Refuses (accept_answer ed b room) n p → verdict_of ed b room ≡ Refused n p
  unfolding accept_answer
  accept-refused n p r = refuses_verdict 0 (used_node_count ed b) (verdict_of ed b room) r

  refused-accept : (n p : ℕ) → verdict_of ed b room ≡ Refused n p → Refuses (accept_answer ed b room) n p
  unfolding accept_answer
  refused-accept n p e =
      let f = file_number ed b room e in
      verdict_refuses 0 (used_node_count ed b) (λ z. omega arith) e

  first-broken : (n p : ℕ) → (verdict_of ed b room ≡ Refused n p) ↔ FirstBroken (accept_checks ed b room) n p
  unfolding verdict_of
  first-broken n p = broken_iff (accept_checks ed b room) n p

  pub acceptance : Acceptance ed b room
  acceptance = record {
    accepted = (λ z. (accepted_iff ed b room).0 (accept-zero z), λ w. (zero-accept ((accepted_iff ed b room).1 w)).answered);
    refused = λ n p. (λ r. (first-broken n p).0 (accept-refused n p r), λ f. refused-accept n p ((first-broken n p).1 f));
    row = λ n p r. refused-row ed b room (accept-refused n p r);
    no_row = λ z n p. let w = (accepted_iff ed b room).0 (accept-zero z) in none-broken ed b w.0 w.1;
    value = λ z. zero-accept (accept-zero z);
  }

  pub reports : (accept_answer ed b room).refusal ≡ 0 → Reports b (header_answer ed b room)
  unfolding header_answer reported header_of double_at
  reports z =
      let e = accept-zero z in
      record { answered = rw e; place = rw e; version = rw e; bits = rw e; timestamp = rw e; has_revision = rw e; revision = rw e }

-- ---- the second sentence

-- the numbers of a lookup
found-numbers : (l : Lookup) (i : ℕ) → ((kind_of l ≡ 0) × (told_number l ≡ i)) ↔ (l ≡ Found i)
unfolding kind_of told_number
found-numbers (Found n) i = (λ w. ap Found w.1, λ e. (refl, (cc)))
found-numbers Absent i = (λ w. absurd (omega (arith, w.0)), λ e. let z : ◌≡◌ {A = ℕ} 0 1 = cc in absurd (omega arith))
found-numbers (Collided n) i = (λ w. absurd (omega (arith, w.0)), λ e. let z : ◌≡◌ {A = ℕ} 0 1 = cc in absurd (omega arith))

absent-numbers : (l : Lookup) → ((kind_of l ≡ 1) × (told_number l ≡ 0)) ↔ (l ≡ Absent)
unfolding kind_of told_number
absent-numbers (Found n) = (λ w. absurd (omega (arith, w.0)), λ e. let z : ◌≡◌ {A = ℕ} 0 1 = cc in absurd (omega arith))
absent-numbers Absent = (λ e. refl, λ e. (refl, refl))
absent-numbers (Collided n) = (λ w. absurd (omega (arith, w.0)), λ e. let z : ◌≡◌ {A = ℕ} 0 1 = cc in absurd (omega arith))

collided-numbers : (l : Lookup) (m : ℕ) → ((kind_of l ≡ 2) × (told_number l ≡ m)) ↔ (l ≡ Collided m)
unfolding kind_of told_number
collided-numbers (Found n) m = (λ w. absurd (omega (arith, w.0)), λ e. let z : ◌≡◌ {A = ℕ} 0 1 = cc in absurd (omega arith))
collided-numbers Absent m = (λ w. absurd (omega (arith, w.0)), λ e. let z : ◌≡◌ {A = ℕ} 0 1 = cc in absurd (omega arith))
collided-numbers (Collided n) m = (λ w. ap Collided w.1, λ e. (refl, (cc)))

-- what an answer says by its two numbers, where these are a lookup's
by_numbers : {A : Type 0} (l c : Lookup) (r : Answer) {k v : ℕ} → r.kind ≡ kind_of l → r.value ≡ told_number l
    → ((kind_of l ≡ k) × (told_number l ≡ v)) ↔ (l ≡ c) → (l ≡ c) ↔ A → ((r.kind ≡ k) × (r.value ≡ v)) ↔ A
by_numbers l c r e f n a = (
  λ w. a.0 (n.0 (sym e ∙ w.0, sym f ∙ w.1)),
  λ w. let u = n.1 (a.1 w) in (e ∙ u.0, f ∙ u.1),
)

finds : (t : Table) (f : ℕ → ℕ → ℕ) (x : List ℕ) (l : Lookup) (r : Answer) → r ≡ answered Accepted (kind_of l) (told_number l)
    → ((i : ℕ) → (l ≡ Found i) ↔ BorneWith f t x i) → ((n : ℕ) → (l ≡ Collided n) ↔ (Collides t x × (n ≡ hash_count t (hash_text x))))
    → (l ≡ Absent) ↔ Missing t x → Finds t f x r
unfolding answered
finds t f x l r e g c h =
    let k : r.kind ≡ kind_of l = ap (λ (a : Answer). a.kind) e in
    let v : r.value ≡ told_number l = ap (λ (a : Answer). a.value) e in
    record {
      answered = ap (λ (a : Answer). a.refusal) e;
      found = λ i. by_numbers l (Found i) r k v (found-numbers l i) (g i);
      collided = λ n. by_numbers l (Collided n) r k v (collided-numbers l n) (c n);
      absent = by_numbers l Absent r k v (absent-numbers l) h;
      one_of_three = one_of_three t x;
    }

module _ (ed : Edition) (b : List ℕ) (room : ℕ) (q : List ℕ) (z : (accept_answer ed b room).refusal ≡ 0) (even : length q % 2 ≡ 0) where
  rules : FileRules ed b
  rules = ((accepted_iff ed b room).0 (accept-zero ed b room z)).0

  name-told : name_answer ed b room q ≡ answered Accepted (kind_of (index_of_text (names ed b) (text_from q))) (told_number (index_of_text (names ed b) (text_from q)))
  unfolding name_answer text_answer told_in table_of
  name-told = text-told ed Name b room q (accept-zero ed b room z) even

  value-told : value_answer ed b room q ≡ answered Accepted (kind_of (address_of_text (values ed b) (text_from q))) (told_number (address_of_text (values ed b) (text_from q)))
  unfolding value_answer text_answer told_in table_of
  value-told = text-told ed Value b room q (accept-zero ed b room z) even

  name-found : Finds (names ed b) (index_of (names ed b)) (text_from q) (name_answer ed b room q)
  name-found =
      let ok = (strings_iff (names ed b)).1 rules.name-table in
      finds (names ed b) (index_of (names ed b)) (text_from q) _ _ name-told (index_found_iff (names ed b) (text_from q) ok)
      (index_collided_iff (names ed b) (text_from q) ok) (index_absent_iff (names ed b) (text_from q) ok)

  value_found : Finds (values ed b) (λ k j. address (segment_of (values ed b) k j) (element_of (values ed b) k j)) (text_from q) (value_answer ed b room q)
  value_found =
      let ok = (strings_iff (values ed b)).1 rules.value-table in
      finds (values ed b) _ (text_from q) _ _ value-told (address_found_iff (values ed b) (text_from q) ok) (address_collided_iff (values ed b) (text_from q) ok)
      (address_absent_iff (values ed b) (text_from q) ok)

  pub lookups : Lookups ed b room q
  lookups = record {
    name = name-found;
    value = value_found;
    zero = λ i h e. (
      (name-found.absent.1 (zero_missing (names ed b) (text_from q) i h e)).0,
      (value_found.absent.1 (zero_missing (values ed b) (text_from q) i h e)).0,
    );
  }
