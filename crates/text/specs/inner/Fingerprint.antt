-- A second hash of a text, which the search of duplicates uses. Only one thing matters about it: it is a function of the text.
use Rattle.std.specs.Prelude.{ℕ, ◌+◌, ◌*◌, ◌/◌, ◌%◌, List, [], ◌∷◌}

unfoldable pub stirred : ℕ → ℕ → ℕ
stirred g v = (g + v) * 1640531527 / 65536 % 4294967296

-- On from g, two characters at a time.
unfoldable pub fingerprint_on : ℕ → List ℕ → ℕ
fingerprint_on g [] = g
fingerprint_on g (c ∷ []) = stirred g c
fingerprint_on g (c ∷ d ∷ cs) = fingerprint_on (stirred g (c + 65536 * d)) cs

-- The upper half of it.
unfoldable pub fingerprint_of : List ℕ → ℕ
fingerprint_of xs = fingerprint_on 0 xs / 65536
