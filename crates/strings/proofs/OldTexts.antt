-- Request T-01 moved refusal 8 and nothing else of a table's checks. Assumes nothing.
use Prim.Native.Nat.{ℕ, ◌<◌}
use native.Mathlib.Omega.{arith}
use mathlib.Core.Path.{◌≡◌, refl, ap, sym, ◌∙◌}
use mathlib.Core.Logic.{inl, inr, ⊎_elim, by_cases}
use lib.ListN.{length}
use Rattle.laws.proofs.Order.{le_or_lt}
use Rattle.verdict.proofs.Laws.{pass, stop}
use Rattle.verdict.proofs.Same.{SameOr, Never, same-all, same-append, same-each}
use Rattle.text.specs.Text.{chars, text_in, text_at, TextEnds}
use Rattle.text.proofs.Laws.{text-chars}
use Rattle.text.proofs.Rule.{text-ends, ends-once}
use Rattle.layout.specs.Table.{Table, entries, entry_at}
use Rattle.strings.specs.Texts.{text_of, text_to}
use Rattle.strings.specs.Rules.{Resolved, Sized}
use Rattle.strings.specs.Decisions.{resolved?}
use Rattle.strings.specs.Order.{entry_checks, bucket_entry_checks, all_entry_checks, string_checks}
use Rattle.strings.specs.OldTexts.{text_start, text_room, text_char, Stored, EndedAt, Delimited, delimited?, entry_checks_before, string_checks_before}

module _ (t : Table) (k j : ℕ) where
  -- the text, in the terms of the old rule
  text_in_lem : text_of t k j ≡ text_in t.bytes (text_start t k j) (text_room t k j)
  unfolding text_of text_to text_at text_start text_room
  text_in_lem = refl

  ends : TextEnds t.bytes (text_start t k j) (text_room t k j) (length (text_of t k j))
  ends = rw text_in_lem (text-ends t.bytes (text_start t k j) (text_room t k j))

  -- a text that a 0 ended has the same end now
  old_ends : (m : ℕ) → m < text_room t k j → EndedAt t k j m → TextEnds t.bytes (text_start t k j) (text_room t k j) m
  unfolding text_char
  old_ends m l e = record { inside = omega arith; live = e.first; ends = inr e.zero }

  old_long : (m : ℕ) → m < text_room t k j → EndedAt t k j m → m ≡ length (text_of t k j)
  old_long m l e = ends-once t.bytes (text_start t k j) (text_room t k j) m (length (text_of t k j)) (old_ends m l e) ends

  pub text-before : (m : ℕ) → m < text_room t k j → EndedAt t k j m → text_of t k j ≡ chars t.bytes (text_start t k j) m
  text-before m l e =
      text_in_lem ∙ text-chars t.bytes (text_start t k j) (text_room t k j)
      ∙ ap (chars t.bytes (text_start t k j)) (sym (ap length text_in_lem) ∙ sym (old_long m l e))

  -- 8 held before: it holds, and the 0 is stored
  pub delimited_sized : Delimited t k j → Sized t k j
  delimited_sized w = omega (arith, w.2.1, old_long w.0 w.1 w.2.0)

  pub delimited_stored : Delimited t k j → Stored t k j
  delimited_stored w = (w.0, w.1, w.2.0.zero)

  -- where a 0 is stored, the text ends before the used part does
  stored_short : Stored t k j → length (text_of t k j) < text_room t k j
  unfolding text_char
  stored_short w =
      ⊎_elim
      (λ l. omega (arith, w.1))
      (λ l. absurd (ends.live w.0 l w.2))
      (le_or_lt (length (text_of t k j)) w.0)

  pub sized_delimited : Stored t k j → Sized t k j → Delimited t k j
  unfolding text_char
  sized_delimited w e = (
    length (text_of t k j),
    stored_short w,
    (
      record { first = ends.live; zero = ⊎_elim (λ q. absurd (omega (arith, stored_short w))) (λ z. z) ends.ends },
      e,
    ),
  )

  -- ---- the checks of an entry

  pub entry-same : {P Q : ℕ → ℕ → Type 0} → (Resolved t k j → Stored t k j) → SameOr P Q (entry_checks t k j) (entry_checks_before t k j)
  unfolding entry_checks entry_checks_before
  entry-same s =
      by_cases (resolved? t k j)
      (λ r. by_cases (delimited? t k j)
      (λ d. inl
      (pass _ _ _ _ _ r ∙ pass _ _ _ _ _ (delimited_sized d) ∙ sym (pass _ _ _ _ _ r ∙ pass _ _ _ _ _ d)))
      (λ f. inl
      (pass _ _ _ _ _ r ∙ stop _ _ _ _ _ (λ e. f (sized_delimited (s r) e)) ∙ sym (pass _ _ _ _ _ r ∙ stop _ _ _ _ _ f))))
      (λ f. inl (stop _ _ _ _ _ f ∙ sym (stop _ _ _ _ _ f)))

  pub entry_or_8 : SameOr Never (λ n p. n ≡ 8) (entry_checks t k j) (entry_checks_before t k j)
  unfolding entry_checks entry_checks_before
  entry_or_8 =
      by_cases (resolved? t k j)
      (λ r. by_cases (delimited? t k j)
      (λ d. entry-same (λ q. delimited_stored d))
      (λ f. inr (inr (8, entry_at t k j, pass _ _ _ _ _ r ∙ stop _ _ _ _ _ f, refl))))
      (λ f. entry-same (λ q. absurd (f q)))

-- ---- those of a table

module _ (t : Table) where
  table_same : {P Q : ℕ → ℕ → Type 0} → ((k j : ℕ) → k < t.buckets → j < entries t k → SameOr P Q (entry_checks t k j) (entry_checks_before t k j))
      → SameOr P Q (string_checks t) (string_checks_before t)
  unfolding string_checks string_checks_before all_entry_checks bucket_entry_checks
  table_same h =
      same-append _ _ _ _
      (same-each _ _ t.buckets 0 (λ k l m. same-each _ _ (entries t k) 0 (λ j g d. h k j (omega arith) (omega arith))))
      (same-all _)

  pub strings-same : {P Q : ℕ → ℕ → Type 0} → ((k j : ℕ) → k < t.buckets → j < entries t k → Resolved t k j → Stored t k j)
      → SameOr P Q (string_checks t) (string_checks_before t)
  strings-same s = table_same (λ k j h l. entry-same t k j (s k j h l))

  pub strings_or_8 : SameOr Never (λ n p. n ≡ 8) (string_checks t) (string_checks_before t)
  strings_or_8 = table_same (λ k j h l. entry_or_8 t k j)
