-- Laws of the two hashes. Assumes nothing.
use Prim.Native.Nat.{ℕ, ◌/◌, ◌%◌, ◌^◌, ◌≤◌, ◌<◌}
use native.Mathlib.Nat.{mod-lt}
use native.Mathlib.Omega.{arith}
use mathlib.Core.Path.{◌≡◌, refl, ap}
use mathlib.Core.List.{List, [], ◌∷◌, ◌++◌}
use lib.Bits.{bit_xor, xor_lt}
use lib.Dec.{lit<}
use Rattle.hash.specs.Table.{entry_of}
use Rattle.hash.specs.Hash.{hash_byte, hash_char, hash_on, hash_text}
use Rattle.hash.specs.Fold.{loses, folded, fold_text, value_hash, value_hash_of}
use Rattle.hash.proofs.Linear.{entry_lt}
use Rattle.hash.proofs.Ranges.{lost_stays, fold_ways}

-- to hash one text and go on with a second is to hash the two joined
pub hash-append : (h : ℕ) (xs ys : List ℕ) → hash_on h (xs ++ ys) ≡ hash_on (hash_on h xs) ys
unfolding hash_on
hash-append h [] ys = refl
hash-append h (x ∷ xs) ys = hash-append (hash_char h x) xs ys

pub byte_lt : (h b : ℕ) → h < 2 ^ 32 → hash_byte h b < 2 ^ 32
unfolding hash_byte
byte_lt h b l = xor_lt 32 (entry_of (bit_xor h b % 256)) (h / 256) (entry_lt _ (mod-lt (bit_xor h b) (lit< tt))) (omega arith)

pub char_lt : (h c : ℕ) → h < 2 ^ 32 → hash_char h c < 2 ^ 32
unfolding hash_char
char_lt h c l = byte_lt _ _ (byte_lt h (c % 256) l)

-- a hash keeps to 32 bits
pub hash_lt : (h : ℕ) (cs : List ℕ) → h < 2 ^ 32 → hash_on h cs < 2 ^ 32
unfolding hash_on
hash_lt h [] l = l
hash_lt h (c ∷ cs) l = hash_lt (hash_char h c) cs (char_lt h c l)

pub folded_le : (c : ℕ) → folded c ≤ c
folded_le c = fold_ways (λ (r : ℕ). r ≤ c) c (λ e. omega arith) (λ e. omega arith) (λ e. omega arith) (λ e. omega arith)

-- to fold twice is to fold once
pub fold_fold : (c : ℕ) → folded (folded c) ≡ folded c
unfolding folded loses
fold_fold c = fold_ways (λ (r : ℕ). folded r ≡ r) c (λ e. refl) (λ e. refl) (lost_stays c) (λ e. e)

pub fold_text-append : (xs ys : List ℕ) → fold_text (xs ++ ys) ≡ fold_text xs ++ fold_text ys
unfolding fold_text
fold_text-append [] ys = refl
fold_text-append (x ∷ xs) ys = ap (◌∷◌ (folded x)) (fold_text-append xs ys)

pub foldText-twice : (cs : List ℕ) → fold_text (fold_text cs) ≡ fold_text cs
unfolding fold_text
foldText-twice [] = refl
foldText-twice (c ∷ cs) = cc (fold_fold c, foldText-twice cs)

-- a text and its folded form have the same value hash
pub value-hash-folded : (cs : List ℕ) → value_hash (fold_text cs) ≡ value_hash cs
value-hash-folded cs = ap (λ (ds : List ℕ). value_hash_of (hash_text ds)) (foldText-twice cs)
