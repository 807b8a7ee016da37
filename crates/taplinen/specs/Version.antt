-- The version of the library, 0.1.0, as one number: major times 1,000,000, plus minor times 1,000, plus patch. include/taplinen.h has the
-- same number, and the gate compares the two.
use Rattle.std.specs.Prelude.{ℕ, ◌+◌, ◌*◌}

abbrev pub version_number : ℕ
version_number = 0 * 1000000 + 1 * 1000 + 0
