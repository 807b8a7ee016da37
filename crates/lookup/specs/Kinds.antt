-- The two kinds of lookup (FORMAT, "Questions"), and the numbers for what one answers.
use Rattle.std.specs.Prelude.{ℕ, ◌+◌, ◌*◌, List}
use Rattle.layout.specs.Table.{Table, entry_index, entry_segment, entry_element}
use Rattle.layout.specs.Layout.{values, names}
use Rattle.layout.specs.declared.Edition.{Edition}
use Rattle.lookup.specs.Lookup.{index_of_text, address_of_text}
use Rattle.lookup.specs.declared.Kind.{Kind}
use Rattle.lookup.specs.declared.Kind.TheVariants.{Name, Value}
use Rattle.lookup.specs.declared.Lookup.{Lookup}
use Rattle.lookup.specs.declared.Lookup.TheVariants.{Found, Collided, Absent}

-- What is told of a text in a table; where it is found, a name's index or a value's address.
unfoldable pub told_in : Kind → Table → List ℕ → Lookup
told_in Name t x = index_of_text t x
told_in Value t x = address_of_text t x

-- The same as it is read in the entry at offset e of the file.
unfoldable pub tells_at : Kind → List ℕ → ℕ → ℕ
tells_at Name b e = entry_index b e
tells_at Value b e = entry_segment b e * 65536 + entry_element b e

-- The table that is asked.
unfoldable pub table_of : Edition → Kind → List ℕ → Table
table_of ed Name b = names ed b
table_of ed Value b = values ed b

-- The kind of an answer: 0 found, 1 absent, 2 collided.
unfoldable pub kind_of : Lookup → ℕ
kind_of (Found n) = 0
kind_of Absent = 1
kind_of (Collided n) = 2

-- Its value: what was found; 0 where the text is absent; how many entries have its hash where it collides.
unfoldable pub told_number : Lookup → ℕ
told_number (Found n) = n
told_number Absent = 0
told_number (Collided n) = n
