-- The fold as it was before request T-10, and how the two value hashes compare. Kept for that law and for the one about whole files
-- (accept/specs/OldFold); nothing else uses it. proofs/OldFold has the proof, `letter_moved`.
use Rattle.std.specs.Prelude.{ℕ, ◌-◌, ◌<◌, ◌≡◌, cond, List, [], ◌∷◌, eqb, length, get_or}
use Rattle.hash.specs.Hash.{hash_text}
use Rattle.hash.specs.Fold.{loses, folded, value_hash_of, value_hash}

-- 009c to 008c; 00ff to 009f; 0151 to 0150; those that lose 0020 lose it; others stay.
unfoldable pub folded_before : ℕ → ℕ
folded_before c = cond (eqb c 0x9c) 0x8c (cond (eqb c 0xff) 0x9f (cond (eqb c 0x151) 0x150 (cond (loses c) (c - 0x20) c)))

unfoldable pub fold_text_before : List ℕ → List ℕ
fold_text_before [] = []
fold_text_before (c ∷ cs) = folded_before c ∷ fold_text_before cs

abbrev pub value_hash_before : List ℕ → ℕ
value_hash_before cs = value_hash_of (hash_text (fold_text_before cs))

-- Two texts: `erdő` and `Kőfejtő és a főhős erői`.
abbrev pub forest : List ℕ
forest = 0x65 ∷ 0x72 ∷ 0x64 ∷ 0x151 ∷ []

abbrev pub quarry : List ℕ
quarry =
    0x4b ∷ 0x151 ∷ 0x66 ∷ 0x65 ∷ 0x6a ∷ 0x74 ∷ 0x151 ∷ 0x20 ∷ 0xe9 ∷ 0x73 ∷ 0x20 ∷ 0x61 ∷ 0x20 ∷ 0x66 ∷ 0x151 ∷ 0x68 ∷ 0x151 ∷ 0x73 ∷ 0x20 ∷
    0x65 ∷ 0x72 ∷ 0x151 ∷ 0x69 ∷ []

pub record LetterMoved : Type 0 where
  -- 0151 stays; it was 0150. Every other character folds as before.
  pub stays : folded 0x151 ≡ 0x151
  pub was : folded_before 0x151 ≡ 0x150
  pub others : (c : ℕ) → (c ≡ 0x151 → ⊥) → folded c ≡ folded_before c
  -- A text without 0151 has the value hash that it had.
  pub without : (cs : List ℕ) → ((i : ℕ) → i < length cs → get_or cs i 0 ≡ 0x151 → ⊥) → value_hash cs ≡ value_hash_before cs
  -- A text with it may have another, or the same.
  pub apart : value_hash forest ≡ value_hash_before forest → ⊥
  pub alike : value_hash quarry ≡ value_hash_before quarry
