-- Refusal 8 as it was before request T-01: a text had to have its 0 stored in the used part. Kept for one law only: nothing else of a verdict
-- moved (accept/specs/OldTexts).
use Rattle.std.specs.Prelude.{ℕ, ◌+◌, ◌*◌, ◌<◌, ◌≡◌, List, [], ◌∷◌, ◌++◌}
use Rattle.std.proofs.Math.Decide.{ℕ_discrete}
use Rattle.std.proofs.Math.Logic.Dec.{and as dec_and, not as dec_not}
use Rattle.verdict.specs.Checks.{Check, check, each, SomeBelow}
use Rattle.verdict.specs.Decide.{some_below?, all_below?, dec_by}
use Rattle.le.specs.Le.{u16_at}
use Rattle.region.specs.Region.{place_of}
use Rattle.text.specs.Text.{room_at}
use Rattle.layout.specs.Table.{Table, entries, entry_at, length_of, segment_of, element_of}
use Rattle.strings.specs.Rules.{Resolved, Hashed, Placed, Indexed, Duplicate}
use Rattle.strings.specs.Decisions.{resolved?, hashed?, placed?, indexed?, alone?}
use Rattle.strings.specs.Order.{all_position_checks}

-- Where the text of entry j of bucket k starts, how many characters of the used part are left there, and character i of them.
unfoldable pub text_start : Table → ℕ → ℕ → ℕ
text_start t k j = place_of 2 t.bytes t.at (segment_of t k j) (element_of t k j)

unfoldable pub text_room : Table → ℕ → ℕ → ℕ
text_room t k j = room_at t.bytes t.at (segment_of t k j) (element_of t k j)

unfoldable pub text_char : Table → ℕ → ℕ → ℕ → ℕ
text_char t k j i = u16_at t.bytes (text_start t k j + 2 * i)

-- A 0 is stored.
abbrev pub Stored : Table → ℕ → ℕ → Type 0
Stored t k j = SomeBelow (text_room t k j) (λ i. text_char t k j i ≡ 0)

-- The text had m characters: the first 0 is the one behind them.
pub record EndedAt (t : Table) (k j m : ℕ) : Type 0 where
  pub first : (i : ℕ) → i < m → ¬ (text_char t k j i ≡ 0)
  pub zero : text_char t k j m ≡ 0

-- 8, as it was: a 0 of the used part ended the text, and the length was right.
abbrev pub Delimited : Table → ℕ → ℕ → Type 0
Delimited t k j = SomeBelow (text_room t k j) (λ m. EndedAt t k j m × (length_of t k j ≡ m + 1))

unfoldable pub delimited? : (t : Table) (k j : ℕ) → Dec (Delimited t k j)
delimited? t k j =
    some_below? (text_room t k j) (λ m. dec_and
    (dec_by (λ p. record { first = p.0; zero = p.1 }) (λ r. (r.first, r.zero))
    (dec_and (all_below? m (λ i. dec_not (ℕ_discrete (text_char t k j i) 0))) (ℕ_discrete (text_char t k j m) 0)))
    (ℕ_discrete (length_of t k j) (m + 1)))

-- The checks of a table, as they were. Those behind 8 are reached only where 8 holds.
unfoldable pub entry_checks_before : Table → ℕ → ℕ → List Check
entry_checks_before t k j =
    check 7 (entry_at t k j) (Resolved t k j) (resolved? t k j)
    ∷ check 8 (entry_at t k j) (Delimited t k j) (delimited? t k j)
    ∷ check 9 (entry_at t k j) (Hashed t k j) (hashed? t k j)
    ∷ check 10 (entry_at t k j) (Placed t k j) (placed? t k j)
    ∷ check 11 (entry_at t k j) (Indexed t k j) (indexed? t k j)
    ∷ check 12 (entry_at t k j) (¬ Duplicate t k j) (alone? t k j)
    ∷ []

unfoldable pub string_checks_before : Table → List Check
string_checks_before t = each (λ k. each (entry_checks_before t k) (entries t k) 0) t.buckets 0 ++ all_position_checks t
