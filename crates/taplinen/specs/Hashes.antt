-- The two hashes by themselves, for people who write builders (docs/changes/T-07.md). No file is asked.
use Rattle.std.specs.Prelude.{ℕ, ◌%◌, ◌<◌, ◌≡◌, List, [], ◌∷◌, ◌++◌, length, get_or}
use Rattle.hash.specs.Hash.{hash_bytes, hash_on}
use Rattle.hash.specs.Fold.{value_hash}
use Rattle.lookup.specs.Lookup.{text_from}

-- Hash: of all bytes of a text, on from any start. An odd last byte is the low byte of a character that goes on in the next part.
unfoldable pub hash_answer : ℕ → List ℕ → ℕ
hash_answer start text = hash_bytes start text

-- Value hash: of all characters of a text. An odd last byte is no character.
unfoldable pub value_hash_answer : List ℕ → ℕ
value_hash_answer text = value_hash (text_from text)

-- What C callers may rely on. proofs/BothHashes has the proof, `hash_answers`.
pub record HashAnswers : Type 0 where
  -- Of whole characters it is the hash of a text (FORMAT, "Hash"), on from the start.
  pub whole : (h : ℕ) (p : List ℕ) → ((k : ℕ) → get_or p k 0 < 256) → length p % 2 ≡ 0 → hash_answer h p ≡ hash_on h (text_from p)
  -- Two calls, the second from the hash that the first answers, answer what one call on the joined text does, wherever it is split.
  pub two_calls : (h : ℕ) (p q : List ℕ) → hash_answer (hash_answer h p) q ≡ hash_answer h (p ++ q)
  -- The value hash leaves an odd last byte out.
  pub odd_byte : (p : List ℕ) (x : ℕ) → length p % 2 ≡ 0 → value_hash_answer (p ++ (x ∷ [])) ≡ value_hash_answer p
