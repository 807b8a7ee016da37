-- What request T-10 moved in the two hashes. Assumes nothing.
use Prim.Native.Nat.{ℕ, suc, ◌<◌}
use native.Mathlib.Omega.{arith}
use mathlib.Core.Path.{◌≡◌, refl, ap, sym, ◌∙◌}
use mathlib.Core.List.{List, [], ◌∷◌}
use lib.ListN.{length, get_or}
use Rattle.hash.specs.Table.{T, entry_of}
use Rattle.hash.specs.Hash.{hash_byte, hash_char, hash_on, hash_text}
use Rattle.hash.specs.Fold.{loses, folded, fold_text, value_hash_of, value_hash}
use Rattle.hash.specs.OldFold.{folded_before, fold_text_before, value_hash_before, forest, quarry, LetterMoved}
use borrow.Author.Tests.{ne_eqb}

fold_same : (c : ℕ) → (c ≡ 0x151 → ⊥) → folded c ≡ folded_before c
unfolding folded folded_before
fold_same c f = rw (ne_eqb c 0x151 f)

text_same : (cs : List ℕ) → ((i : ℕ) → i < length cs → get_or cs i 0 ≡ 0x151 → ⊥) → fold_text cs ≡ fold_text_before cs
unfolding fold_text fold_text_before
text_same [] f = refl
text_same (c ∷ cs) f = cc (fold_same c (f 0 (omega arith)), text_same cs (λ i l. f (suc i) (omega arith)))

forest_now : value_hash forest ≡ 6617
unfolding value_hash_of fold_text folded loses hash_on hash_char hash_byte entry_of T
forest_now = refl

forest-before : value_hash_before forest ≡ 1471
unfolding value_hash_of fold_text_before folded_before loses hash_on hash_char hash_byte entry_of T
forest-before = refl

quarry_now : value_hash quarry ≡ 4886
unfolding value_hash_of fold_text folded loses hash_on hash_char hash_byte entry_of T
quarry_now = refl

quarry-before : value_hash_before quarry ≡ 4886
unfolding value_hash_of fold_text_before folded_before loses hash_on hash_char hash_byte entry_of T
quarry-before = refl

pub letter_moved : LetterMoved
unfolding folded folded_before loses
letter_moved = record {
  stays = refl;
  was = refl;
  others = fold_same;
  without = λ cs f. ap (λ (ds : List ℕ). value_hash_of (hash_text ds)) (text_same cs f);
  apart = λ e. omega (arith, forest_now, forest-before);
  alike = quarry_now ∙ sym quarry-before;
}
