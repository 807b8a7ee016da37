-- Refusals 7 to 13 of a string table in the order in which they run (FORMAT, "Refusals").
use Rattle.std.specs.Prelude.{ℕ, ◌-◌, List, [], ◌∷◌, ◌++◌}
use Rattle.verdict.specs.Checks.{Check, check, each}
use Rattle.layout.specs.Table.{Table, entries, entry_at, count, position_at}
use Rattle.strings.specs.Rules.{Resolved, Sized, Hashed, Placed, Indexed, Duplicate, Carried}
use Rattle.strings.specs.Decisions.{resolved?, sized?, hashed?, placed?, indexed?, alone?, carried?}

-- All of an entry's checks come before the next entry's; the place is the entry.
unfoldable pub entry_checks : Table → ℕ → ℕ → List Check
entry_checks t k j =
    check 7 (entry_at t k j) (Resolved t k j) (resolved? t k j)
    ∷ check 8 (entry_at t k j) (Sized t k j) (sized? t k j)
    ∷ check 9 (entry_at t k j) (Hashed t k j) (hashed? t k j)
    ∷ check 10 (entry_at t k j) (Placed t k j) (placed? t k j)
    ∷ check 11 (entry_at t k j) (Indexed t k j) (indexed? t k j)
    ∷ check 12 (entry_at t k j) (¬ Duplicate t k j) (alone? t k j)
    ∷ []

-- A bucket, entry by entry.
unfoldable pub bucket_entry_checks : Table → ℕ → List Check
bucket_entry_checks t k = each (entry_checks t k) (entries t k) 0

-- The entries of all buckets.
unfoldable pub all_entry_checks : Table → List Check
all_entry_checks t = each (bucket_entry_checks t) t.buckets 0

-- A list position; the place is the list element.
unfoldable pub position_checks : Table → ℕ → List Check
position_checks t i = check 13 (position_at t i) (Carried t i) (carried? t i) ∷ []

-- The list positions 1 to count less one.
unfoldable pub all_position_checks : Table → List Check
all_position_checks t = each (position_checks t) (count t - 1) 1

-- 13 is a pass after the table's last entry.
unfoldable pub string_checks : Table → List Check
string_checks t = all_entry_checks t ++ all_position_checks t
