-- The value hash (FORMAT, "Value hash"): fold each character, hash, keep the low 14 bits.
use Rattle.std.specs.Prelude.{ℕ, ◌-◌, ◌%◌, Bool, cond, not, ◌&&◌, ◌||◌, List, [], ◌∷◌, eqb, leb}
use Rattle.hash.specs.Hash.{hash_text}

-- 0061..007a and 00e0..00fe, but not 00f0 or 00f7, lose 0020.
unfoldable pub loses : ℕ → Bool
loses c = (leb 0x61 c && leb c 0x7a) || ((leb 0xe0 c && leb c 0xfe) && (not (eqb c 0xf0) && not (eqb c 0xf7)))

-- 009c to 008c; 00ff to 009f; those that lose 0020 lose it; others stay.
unfoldable pub folded : ℕ → ℕ
folded c = cond (eqb c 0x9c) 0x8c (cond (eqb c 0xff) 0x9f (cond (loses c) (c - 0x20) c))

-- Each character of a text folded.
unfoldable pub fold_text : List ℕ → List ℕ
fold_text [] = []
fold_text (c ∷ cs) = folded c ∷ fold_text cs

-- The low 14 bits of a hash.
unfoldable pub value_hash_of : ℕ → ℕ
value_hash_of h = h % 16384

-- The value hash of a text.
abbrev pub value_hash : List ℕ → ℕ
value_hash cs = value_hash_of (hash_text (fold_text cs))
