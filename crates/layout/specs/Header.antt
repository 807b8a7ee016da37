-- The header and the keys (FORMAT, "Header", "Keys").
use Rattle.std.specs.Prelude.{ℕ, ◌+◌, ◌*◌, List, [], ◌∷◌}
use Rattle.verdict.specs.Checks.{Check, at_most, equal, each}
use Rattle.le.specs.Le.{u32_at}
use Rattle.le.specs.Floats.{double_at}
use Rattle.region.specs.Checks.{field}
use Rattle.layout.specs.declared.Header.{Header}

-- The header's fields: version, timestamp with its bits, revision.
unfoldable pub header_of : List ℕ → Header
header_of b = record { version = u32_at b 0; timestamp = double_at b 4; revision = u32_at b 12 }

-- Zero word i of four, at offsets 16, 20, 24, 28.
unfoldable pub zero_word_checks : List ℕ → ℕ → List Check
zero_word_checks b i = field b (16 + 4 * i) 4 ∷ equal 4 (16 + 4 * i) (u32_at b (16 + 4 * i)) 0 ∷ []

-- The header field by field: the version must be 6, and four words must be 0.
unfoldable pub header_checks : List ℕ → List Check
header_checks b = field b 0 4 ∷ equal 3 0 (u32_at b 0) 6 ∷ field b 4 8 ∷ field b 12 4 ∷ each (zero_word_checks b) 4 0

-- Where the header ends and the key count stands.
unfoldable pub keys_at : ℕ
keys_at = 32

unfoldable pub key_count : List ℕ → ℕ
key_count b = u32_at b keys_at

-- Where key k stands: 8 bytes each.
unfoldable pub key_at : ℕ → ℕ
key_at k = keys_at + 4 + 8 * k

-- The keys: 1 to 4,096 of them.
unfoldable pub key_checks : List ℕ → List Check
key_checks b =
    field b keys_at 4
    ∷ at_most 5 keys_at 1 (key_count b)
    ∷ at_most 5 keys_at (key_count b) 4096
    ∷ field b (key_at 0) (8 * key_count b)
    ∷ []
