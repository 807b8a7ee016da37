-- What people who write builders may rely on (docs/changes/T-07.md). proofs/Parts has the proof, `hash_laws`.
use Rattle.std.specs.Prelude.{ℕ, ◌≡◌, List, [], ◌∷◌, ◌++◌}
use Rattle.hash.specs.Hash.{hash_bytes, hash_on, hash_text}
use Rattle.hash.specs.Fold.{folded, fold_text, value_hash_of, value_hash}

-- Three texts: `Bell`, `Red Lamp` and `s`.
abbrev pub bell : List ℕ
bell = 0x42 ∷ 0x65 ∷ 0x6c ∷ 0x6c ∷ []

abbrev pub red_lamp : List ℕ
red_lamp = 0x52 ∷ 0x65 ∷ 0x64 ∷ 0x20 ∷ 0x4c ∷ 0x61 ∷ 0x6d ∷ 0x70 ∷ []

abbrev pub plural : List ℕ
plural = 0x73 ∷ []

pub record HashLaws : Type 0 where
  -- Hashing one text and then going on with a second from that hash equals hashing the two joined, for any start.
  pub in_parts : (h : ℕ) (a b : List ℕ) → hash_on (hash_on h a) b ≡ hash_on h (a ++ b)
  -- The same of bytes: a text may be split inside a character, too.
  pub bytes_in_parts : (h : ℕ) (p q : List ℕ) → hash_bytes (hash_bytes h p) q ≡ hash_bytes h (p ++ q)
  -- Folding twice is folding once, for a character and for a text.
  pub fold_twice : (c : ℕ) → folded (folded c) ≡ folded c
  pub fold_text_twice : (a : List ℕ) → fold_text (fold_text a) ≡ fold_text a
  -- A text and its folded form have the same value hash.
  pub folded-alike : (a : List ℕ) → value_hash (fold_text a) ≡ value_hash a
  -- The value hash in parts: fold both, hash one after the other, and keep 14 bits only at the end.
  pub value_in_parts : (a b : List ℕ) → value_hash (a ++ b) ≡ value_hash_of (hash_on (hash_text (fold_text a)) (fold_text b))
  -- What does not hold: the 14 bits cannot be gone on with. `Bell` and `Red Lamp` have one value hash, `Bells` and `Red Lamps` have two ..
  pub one-value-hash : value_hash bell ≡ value_hash red_lamp
  pub parted : value_hash (bell ++ plural) ≡ value_hash (red_lamp ++ plural) → ⊥
  -- .. so no rule gives the value hash of two texts joined from the value hash of the first and from the second.
  pub no_rule : (f : ℕ → List ℕ → ℕ) → ((a b : List ℕ) → f (value_hash a) b ≡ value_hash (a ++ b)) → ⊥
