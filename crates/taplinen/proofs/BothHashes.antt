-- The two exported hashes. Assumes nothing.
use Prim.Native.Nat.{ℕ, ◌+◌, ◌*◌, ◌/◌, ◌%◌, ◌<◌}
use native.Mathlib.Omega.{arith}
use mathlib.Core.Path.{◌≡◌, ap, ◌∙◌}
use mathlib.Core.List.{List, [], ◌∷◌, ◌++◌}
use lib.ListN.{length, get_or, get_or-append, length-append}
use Rattle.le.specs.Le.{u16_at}
use Rattle.hash.specs.Hash.{hash_on}
use Rattle.hash.specs.Fold.{value_hash}
use Rattle.hash.proofs.Parts.{hash_laws}
use Rattle.text.specs.Text.{chars}
use Rattle.text.proofs.OneByOne.{chars-same}
use Rattle.text.proofs.AsBytes.{bytes-chars, bytes_over}
use Rattle.lookup.specs.Lookup.{text_from}
use Rattle.taplinen.specs.Hashes.{hash_answer, value_hash_answer, HashAnswers}

whole-text : (h : ℕ) (p : List ℕ) → ((k : ℕ) → get_or p k 0 < 256) → length p % 2 ≡ 0 → hash_answer h p ≡ hash_on h (text_from p)
unfolding hash_answer text_from
whole-text h p f e = bytes-chars p f (length p / 2) 0 h (omega arith) ∙ bytes_over p (0 + 2 * (length p / 2)) _ (omega arith)

odd_out : (p : List ℕ) (x : ℕ) → length p % 2 ≡ 0 → text_from (p ++ (x ∷ [])) ≡ text_from p
unfolding text_from u16_at
odd_out p x e =
    let q = p ++ (x ∷ []) in
    let l : length q ≡ length p + 1 = length-append p (x ∷ []) in
    let n : length q / 2 ≡ length p / 2 = omega arith in
    ap (chars q 0) n
    ∙ chars-same q p (length p / 2) 0 0
    (λ i m.
    let a = get_or-append p (x ∷ []) 0 (0 + 2 * i) (omega arith) in
    let b = get_or-append p (x ∷ []) 0 (0 + 2 * i + 1) (omega arith) in
    cc)

pub hash_answers : HashAnswers
unfolding hash_answer value_hash_answer
hash_answers = record {
  whole = whole-text;
  two_calls = hash_laws.bytes_in_parts;
  odd_byte = λ p x e. ap value_hash (odd_out p x e);
}
