-- The worked values (FORMAT, "Worked values"), proved of the definitions that the contracts cite. Assumes nothing.
use Prim.Native.Nat.{ℕ}
use mathlib.Core.Path.{◌≡◌, refl}
use mathlib.Core.List.{[], ◌∷◌}
use Rattle.verdict.specs.Checks.{first_fault}
use Rattle.verdict.specs.Verdict.{Refused}
use native.Mathlib.Decide.{dec_le, ℕ_discrete}
use Rattle.le.specs.Le.{u32_at}
use Rattle.words.specs.Words.{flags_of, key_index_of, type_of, extended_of}
use Rattle.hash.specs.Table.{T, entry_of}
use Rattle.hash.specs.Hash.{hash_byte, hash_char, hash_on, hash_text, bucket_of}
use Rattle.hash.specs.Fold.{loses, folded, fold_text, value_hash_of, value_hash}
use Rattle.layout.specs.Header.{header_checks}
use Rattle.accept.specs.Verdict.{accept_checks, verdict_of}
use Rattle.verdict.proofs.Laws.{fault_keep}
use Rattle.layout.specs.Layout.{size_checks, front_checks, layout_checks}
use Rattle.layout.specs.declared.Edition.TheVariants.{Bits64}

hash-none : hash_text [] ≡ 0
unfolding hash_on
hash-none = refl

hash_0001 : hash_text (0x0001 ∷ []) ≡ 0xa37d1c66
unfolding hash_on hash_char hash_byte entry_of T
hash_0001 = refl

bucket_0001_values : bucket_of 1024 (hash_text (0x0001 ∷ [])) ≡ 795
unfolding bucket_of hash_on hash_char hash_byte entry_of T
bucket_0001_values = refl

bucket_0001_names : bucket_of 512 (hash_text (0x0001 ∷ [])) ≡ 283
unfolding bucket_of hash_on hash_char hash_byte entry_of T
bucket_0001_names = refl

value_hash_0001 : value_hash (0x0001 ∷ []) ≡ 7270
unfolding value_hash_of fold_text folded loses hash_on hash_char hash_byte entry_of T
value_hash_0001 = refl

hash_a : hash_text (0x0061 ∷ []) ≡ 0x988bd23b
unfolding hash_on hash_char hash_byte entry_of T
hash_a = refl

value_hash_a : value_hash (0x0061 ∷ []) ≡ 6132
unfolding value_hash_of fold_text folded loses hash_on hash_char hash_byte entry_of T
value_hash_a = refl

value_hash_A : value_hash (0x0041 ∷ []) ≡ 6132
unfolding value_hash_of fold_text folded loses hash_on hash_char hash_byte entry_of T
value_hash_A = refl

T-1 : entry_of 1 ≡ 0x04c11db7
unfolding entry_of T
T-1 = refl

T-255 : entry_of 255 ≡ 0xb1f740b4
unfolding entry_of T
T-255 = refl

fold_00ff : folded 0x00ff ≡ 0x009f
unfolding folded loses
fold_00ff = refl

fold_00f7 : folded 0x00f7 ≡ 0x00f7
unfolding folded loses
fold_00f7 = refl

key_word_0012_flags : flags_of 0x0012 ≡ 2
unfolding flags_of
key_word_0012_flags = refl

key_word_0012_index : key_index_of 0x0012 ≡ 1
unfolding key_index_of
key_word_0012_index = refl

type_word_0005_type : type_of 0x0005 ≡ 1
unfolding type_of
type_word_0005_type = refl

type_word_0005_extended : extended_of 0x0005 ≡ 1
unfolding extended_of
type_word_0005_extended = refl

layout_cut : first_fault (layout_checks Bits64 (0x05 ∷ 0x00 ∷ 0x00 ∷ 0x00 ∷ [])) ≡ Refused 3 0
unfolding layout_checks front_checks size_checks header_checks first_fault dec_le ℕ_discrete u32_at
layout_cut = refl

version_cut : (room : ℕ) → verdict_of Bits64 (0x05 ∷ 0x00 ∷ 0x00 ∷ 0x00 ∷ []) room ≡ Refused 3 0
unfolding verdict_of accept_checks
version_cut room = fault_keep (layout_checks Bits64 (0x05 ∷ 0x00 ∷ 0x00 ∷ 0x00 ∷ [])) _ layout_cut
