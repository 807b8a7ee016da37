-- What many lookups at once answer on each way out, and what a place holds. Assumes nothing.
use mathlib.Core.Path.{◌≡◌, refl, sym, ap, ◌∙◌}
use mathlib.Core.List.{List, [], ◌∷◌, ◌++◌, append_assoc, append-nil}
use Prim.Native.Nat.{ℕ, zero, suc, ◌+◌, ◌*◌, ◌/◌, ◌^◌, ◌≤◌, ◌<◌}
use native.Mathlib.Nat.{not-suc-le-zero, zero-add}
use native.Mathlib.Omega.{arith}
use lib.ListN.{length, get_or, take, drop}
use lib.Seq.{take_at, drop-append-add, get_or-take, get_or-drop}
use Rattle.laws.specs.inner.Lists.{splice}
use Rattle.le.specs.Le.{u32_at, le4}
use Rattle.le.proofs.Four.{le4_front, shifted}
use Rattle.verdict.specs.Checks.{first_fault}
use Rattle.std.specs.Prelude.{Result, Ok, Err}
use Rattle.std.specs.Result.{IsErrAnd}
use Rattle.std.proofs.lemmas.Result.{err_from_is_err_and}
use Rattle.verdict.specs.Verdict.{Accepted, Refused, refused, answer_of}
use Rattle.verdict.specs.declared.Refusal.{Refusal}
use Rattle.verdict.specs.declared.Rule.TheVariants.{AnswerRoom}
use Rattle.verdict.proofs.Gives.{gives_ok, gives_err}
use Rattle.verdict.proofs.Laws.{Clean, pass, stop, fault_none, fault_append, fault_keep}
use Rattle.lookup.specs.Kinds.{kind_of, told_number}
use Rattle.lookup.specs.declared.Lookup.{Lookup}
use Rattle.lookup.proofs.ByKind.{kind-low}
use Rattle.path.specs.Names.{names_of, name_at, path_checks}
use Rattle.batch.specs.Places.{place, places, place_checks, answers_after}
use Rattle.batch.specs.inner.Answer.{Answered}
use Rattle.batch.proofs.Placed.{length-place}

-- ---- the ways out

abbrev pub Done : (List ℕ → Lookup) → List ℕ → List ℕ → Result ℕ Refusal → List ℕ → Type 0
Done f texts d r d' = Answered texts (length d) r × (d' ≡ answers_after f texts d (answer_of r))

module _ (f : List ℕ → Lookup) (texts d : List ℕ) where
  -- by a `?`
  pub texts-refused : (a : Result ℕ Refusal) (r : Refusal) → IsErrAnd a (λ q. q ≡ r) → first_fault (path_checks texts) ≡ refused r → Done f texts d a d
  unfolding answers_after
  texts-refused a r h e = let q = err_from_is_err_and a h in rw (q.1, q.2) (gives_err (fault_keep _ _ e), refl)

  module _ (ok : Clean (path_checks texts)) {n : ℕ} (e : n ≡ length (names_of texts)) where
    pub too_few : length d / 8 < n → Done f texts d (Err (record { 0 = AnswerRoom; 1 = n })) d
    unfolding answers_after place_checks
    too_few h = (gives_err (fault_append _ _ ok ∙ stop _ _ _ _ _ (λ l. omega arith) ∙ ap (Refused 25) (sym e)), refl)

    pub all_told : {d' : List ℕ} → n ≤ length d / 8 → d' ≡ splice d 0 (places f (names_of texts)) → Done f texts d (Ok n) d'
    unfolding answers_after place_checks splice
    all_told h s = (
      gives_ok (fault_append _ _ ok ∙ pass _ _ _ _ _ (omega arith) ∙ fault_none) e,
      s ∙ ap (λ (k : ℕ). places f (names_of texts) ++ drop k d) (zero-add (length (places f (names_of texts)))),
    )

-- ---- the law: place i holds what the question for text i alone answers

places-at : (f : List ℕ → Lookup) (xs : List (List ℕ)) (t : List ℕ) (i : ℕ) → i < length xs → take 8 (drop (8 * i) (places f xs ++ t)) ≡ place (f (name_at xs i))
unfolding places name_at
places-at f [] t i h = absurd (not-suc-le-zero h)
places-at f (x ∷ xs) t zero h = rw append_assoc (take_at (place (f x)) (places f xs ++ t) 8 (length-place (f x)))
places-at f (x ∷ xs) t (suc i) h =
    let e : 8 * suc i ≡ length (place (f x)) + 8 * i = omega (arith, length-place (f x)) in
    ap (λ (k : ℕ). take 8 (drop k (place (f x) ++ places f xs ++ t))) e
    ∙ ap (λ (l : List ℕ). take 8 (drop (length (place (f x)) + 8 * i) l)) (append_assoc (place (f x)) (places f xs) t)
    ∙ ap (take 8) (drop-append-add (place (f x)) (places f xs ++ t) (8 * i))
    ∙ places-at f xs t i (omega arith)

module _ (f : List ℕ → Lookup) (texts d : List ℕ) where
  pub place_is : (i : ℕ) → i < length (names_of texts) → take 8 (drop (8 * i) (answers_after f texts d Accepted)) ≡ place (f (name_at (names_of texts) i))
  unfolding answers_after
  place_is i h = places-at f (names_of texts) _ i h

-- ---- the same as numbers

-- four of the eight bytes that a place has
word_at : (s r : List ℕ) (i : ℕ) → take 8 (drop i s) ≡ r → (m : ℕ) → m + 3 < 8 → u32_at s (i + m) ≡ u32_at r m
unfolding u32_at
word_at s r i h m low =
    let e1 : i + m + 1 ≡ i + (m + 1) = omega arith in
    let e2 : i + m + 2 ≡ i + (m + 2) = omega arith in
    let e3 : i + m + 3 ≡ i + (m + 3) = omega arith in
    rw (e1, e2, e3, byte m (omega arith), byte (m + 1) (omega arith), byte (m + 2) (omega arith), byte (m + 3) low)
  where
    byte : (j : ℕ) → j < 8 → get_or s (i + j) 0 ≡ get_or r j 0
    byte j l = sym (get_or-drop i s j 0) ∙ sym (get_or-take 8 (drop i s) j 0 l) ∙ ap (λ (x : List ℕ). get_or x j 0) h

-- both numbers of a lookup
place_words : (l : Lookup) → told_number l < 2 ^ 32 → (u32_at (place l) 0 ≡ kind_of l) × (u32_at (place l) 4 ≡ told_number l)
unfolding place le4
place_words l low = (
  le4_front (kind_of l) (le4 (told_number l)) (kind-low l),
  shifted (le4 (kind_of l)) (le4 (told_number l)) 0 ∙ ap (λ (x : List ℕ). u32_at x 0) (sym (append-nil (le4 (told_number l)))) ∙ le4_front (told_number l) [] low,
)

pub place-holds : (f : List ℕ → Lookup) (texts d : List ℕ) (i : ℕ) → i < length (names_of texts)
    → let l = f (name_at (names_of texts) i) in
    told_number l < 2 ^ 32
    → (u32_at (answers_after f texts d Accepted) (8 * i) ≡ kind_of l) × (u32_at (answers_after f texts d Accepted) (8 * i + 4) ≡ told_number l)
place-holds f texts d i h low =
    let w = word_at _ _ (8 * i) (place_is f texts d i h) in
    let z : 8 * i + 0 ≡ 8 * i = omega arith in
    let p = place_words (f (name_at (names_of texts) i)) low in
    (ap (u32_at (answers_after f texts d Accepted)) (sym z) ∙ w 0 (omega arith) ∙ p.0, w 4 (omega arith) ∙ p.1)
