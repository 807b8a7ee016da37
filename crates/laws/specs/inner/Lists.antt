-- Parts of lists.
use Rattle.std.specs.Prelude.{ℕ, ◌+◌, List, ◌++◌, length, take, drop}

-- d with s over the elements from index i on.
unfoldable pub splice : List ℕ → ℕ → List ℕ → List ℕ
splice d i s = take i d ++ s ++ drop (i + length s) d
