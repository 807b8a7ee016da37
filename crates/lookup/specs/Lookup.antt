-- Lookup of a text in a string table (FORMAT, "Questions"; demand 2): found exactly when an entry bears that very text; otherwise collided or
-- absent.
use Rattle.std.specs.Prelude.{ℕ, zero, suc, ◌+◌, ◌*◌, ◌/◌, ◌≡◌, List, length}
use Rattle.verdict.specs.Checks.{SomeBelow}
use Rattle.verdict.specs.Decide.{some_below?, texts?}
use Rattle.hash.specs.Hash.{hash_text}
use Rattle.text.specs.Text.{chars, HoldsZero, holds_zero?}
use Rattle.layout.specs.Table.{Table, entries, entry_at, index_of, segment_of, element_of}
use Rattle.strings.specs.Texts.{text_of}
use Rattle.lookup.specs.Collisions.{hash_count}
use Rattle.lookup.specs.declared.Lookup.{Lookup}
use Rattle.lookup.specs.declared.Lookup.TheVariants.{Found, Collided, Absent}

-- The text that comes as bytes, two a character, low byte first.
unfoldable pub text_from : List ℕ → List ℕ
text_from q = chars q 0 (length q / 2)

-- Some entry bears the text x.
abbrev pub Borne : Table → List ℕ → Type 0
Borne t x = SomeBelow t.buckets (λ k. SomeBelow (entries t k) (λ j. text_of t k j ≡ x))

unfoldable pub borne? : (t : Table) (x : List ℕ) → Dec (Borne t x)
borne? t x = some_below? t.buckets (λ k. some_below? (entries t k) (λ j. texts? (text_of t k j) x))

-- Some entry bears the text x, and f tells i of it.
abbrev pub BorneWith : (ℕ → ℕ → ℕ) → Table → List ℕ → ℕ → Type 0
BorneWith f t x i = SomeBelow t.buckets (λ k. SomeBelow (entries t k) (λ j. (text_of t k j ≡ x) × (f k j ≡ i)))

-- What is told of a text that no entry bears, where n entries have its hash: absent if it holds a 0 or n is 0, otherwise collided, with n.
unfoldable pub told_unborne : (x : List ℕ) → Dec (HoldsZero x) → ℕ → Lookup
told_unborne x (yes z) n = Absent
told_unborne x (no f) zero = Absent
told_unborne x (no f) (suc n) = Collided (suc n)

-- What is told of a text: f of the entry that bears it; where none does, absent or collided.
unfoldable pub told_by : (f : ℕ → ℕ → ℕ) (t : Table) (x : List ℕ) → Dec (Borne t x) → Lookup
told_by f t x (yes w) = Found (f w.0 w.2.0)
told_by f t x (no n) = told_unborne x (holds_zero? x) (hash_count t (hash_text x))

-- Where its entry stands.
unfoldable pub entry_of_text : Table → List ℕ → Lookup
entry_of_text t x = told_by (entry_at t) t x (borne? t x)

-- Name by text: its index, collided or absent.
unfoldable pub index_of_text : Table → List ℕ → Lookup
index_of_text t x = told_by (index_of t) t x (borne? t x)

-- Value by text: its address as segment times 65,536 plus element, collided or absent.
unfoldable pub address_of_text : Table → List ℕ → Lookup
address_of_text t x = told_by (λ k j. segment_of t k j * 65536 + element_of t k j) t x (borne? t x)
