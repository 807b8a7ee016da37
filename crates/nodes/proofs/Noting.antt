-- What is remembered of long texts. Assumes nothing.
use Prim.Native.Nat.{ℕ, ◌+◌, ◌-◌, ◌^◌, ◌≤◌, ◌<◌}
use native.Mathlib.Omega.{arith}
use mathlib.Core.Path.{◌≡◌, refl, ap, sym, ◌∙◌}
use mathlib.Core.Bool.{Bool, cond}
use mathlib.Core.List.{List}
use borrow.Author.Tests.{lt-ltb, le-ltb}
use lib.Dec.{lit<}
use Rattle.hash.specs.Hash.{hash_on, hash_text}
use Rattle.hash.specs.Fold.{fold_text, value_hash_of, value_hash}
use Rattle.hash.proofs.Laws.{hash_lt}
use Rattle.text.specs.Text.{text_in}
use Rattle.text.specs.inner.Measure.{Measured}
use Rattle.text.specs.declared.Extent.{Extent}
use Rattle.text.proofs.Laws.{text-none}
use Rattle.text.proofs.Split.{ends-first}
use Rattle.nodes.specs.inner.Noted.{noted}

module _ (b : List ℕ) (x n : ℕ) where
  pub value-noted : n < 65536 → noted b x n ≡ value_hash (text_in b x n)
  unfolding noted
  value-noted l = ap (λ (t : Bool). cond t (value_hash (text_in b x n)) (hash_text (text_in b x (n - 65536)))) (lt-ltb n 65536 l)

  pub hash-noted : noted b x (n + 65536) ≡ hash_text (text_in b x n)
  unfolding noted
  hash-noted =
      let e : n + 65536 - 65536 ≡ n = omega arith in
      ap (λ (t : Bool). cond t (value_hash (text_in b x (n + 65536))) (hash_text (text_in b x (n + 65536 - 65536)))) (le-ltb (n + 65536) 65536 (omega arith))
      ∙ ap (λ (k : ℕ). hash_text (text_in b x k)) e

  pub hash-small : (r : ℕ) → r ≡ hash_text (text_in b x n) → r < 2 ^ 32
  hash-small r e = let h = hash_lt 0 (text_in b x n) (lit< tt) in omega arith

pub value-small : (r h : ℕ) → r ≡ value_hash_of h → r < 2 ^ 32
unfolding value_hash_of
value-small r h e = omega arith

-- nothing is noted wrong at 0 and 0
pub blank_noted : (b : List ℕ) → noted b 0 0 ≡ 0
unfolding fold_text hash_on value_hash_of
blank_noted b = value-noted b 0 0 (omega arith) ∙ ap value_hash (text-none b 0 0 refl)

-- a text that ends within 64 characters
pub short-hash : (b : List ℕ) (x n : ℕ) (m : Extent) → 64 ≤ n → Measured b x 64 m → m.length < 64 → m.hash ≡ hash_text (text_in b x n)
short-hash b x n m l w h = w.hashed ∙ ap hash_text (sym (ends-first b x 64 n l (omega (arith, w.long))))
