-- The laws of the two hashes that builders may rely on. Assumes nothing.
use Prim.Native.Nat.{ℕ}
use native.Mathlib.Omega.{arith}
use mathlib.Core.Path.{◌≡◌, refl, ap, sym, ◌∙◌}
use mathlib.Core.List.{List, [], ◌∷◌, ◌++◌}
use Rattle.hash.specs.Table.{T, entry_of}
use Rattle.hash.specs.Hash.{hash_byte, hash_char, hash_bytes, hash_on, hash_text}
use Rattle.hash.specs.Fold.{loses, folded, fold_text, value_hash_of, value_hash}
use Rattle.hash.specs.Parts.{bell, red_lamp, plural, HashLaws}
use Rattle.hash.proofs.Laws.{hash-append, fold_fold, fold_text-append, foldText-twice, value-hash-folded}

bytes-append : (h : ℕ) (p q : List ℕ) → hash_bytes h (p ++ q) ≡ hash_bytes (hash_bytes h p) q
unfolding hash_bytes
bytes-append h [] q = refl
bytes-append h (x ∷ p) q = bytes-append (hash_byte h x) p q

value-append : (a b : List ℕ) → value_hash (a ++ b) ≡ value_hash_of (hash_on (hash_text (fold_text a)) (fold_text b))
value-append a b = ap value_hash_of (ap hash_text (fold_text-append a b) ∙ hash-append 0 (fold_text a) (fold_text b))

one-hash : value_hash bell ≡ value_hash red_lamp
unfolding value_hash_of fold_text folded loses hash_on hash_char hash_byte entry_of T
one-hash = refl

bells : value_hash (bell ++ plural) ≡ 3726
unfolding value_hash_of fold_text folded loses hash_on hash_char hash_byte entry_of T
bells = refl

lamps : value_hash (red_lamp ++ plural) ≡ 4001
unfolding value_hash_of fold_text folded loses hash_on hash_char hash_byte entry_of T
lamps = refl

two_hashes : value_hash (bell ++ plural) ≡ value_hash (red_lamp ++ plural) → ⊥
two_hashes e = omega (arith, bells, lamps)

pub hash_laws : HashLaws
hash_laws = record {
  in_parts = λ h a b. sym (hash-append h a b);
  bytes_in_parts = λ h p q. sym (bytes-append h p q);
  fold_twice = fold_fold;
  fold_text_twice = foldText-twice;
  folded-alike = value-hash-folded;
  value_in_parts = value-append;
  one-value-hash = one-hash;
  parted = two_hashes;
  no_rule = λ f k. two_hashes (sym (k bell plural) ∙ ap (λ (n : ℕ). f n plural) one-hash ∙ k red_lamp plural);
}
