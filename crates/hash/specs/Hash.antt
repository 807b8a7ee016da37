-- The string hash and the bucket (FORMAT, "Hash").
use Rattle.std.specs.Prelude.{ℕ, ◌/◌, ◌%◌, List, [], ◌∷◌}
use Rattle.std.specs.Int.Bits.{bit_xor}
use Rattle.hash.specs.Table.{entry_of}

-- With one byte more: T[(hash xor byte) mod 256] xor (hash shifted right 8).
unfoldable pub hash_byte : ℕ → ℕ → ℕ
hash_byte h b = bit_xor (entry_of (bit_xor h b % 256)) (h / 256)

-- With one character more: its low byte, then its high byte.
unfoldable pub hash_char : ℕ → ℕ → ℕ
hash_char h c = hash_byte (hash_byte h (c % 256)) (c / 256)

-- On through some characters, from any hash.
unfoldable pub hash_on : ℕ → List ℕ → ℕ
hash_on h [] = h
hash_on h (c ∷ cs) = hash_on (hash_char h c) cs

-- On through some bytes, from any hash: a character is its low byte and then its high byte.
unfoldable pub hash_bytes : ℕ → List ℕ → ℕ
hash_bytes h [] = h
hash_bytes h (b ∷ bs) = hash_bytes (hash_byte h b) bs

-- The hash of a text starts at 0.
abbrev pub hash_text : List ℕ → ℕ
hash_text cs = hash_on 0 cs

-- The bucket among n: (hash xor (hash shifted right 16)) modulo n.
unfoldable pub bucket_of : ℕ → ℕ → ℕ
bucket_of n h = bit_xor h (h / 65536) % n
