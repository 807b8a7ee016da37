-- The tables that are lent: how they are filled, and how characters go through them. Assumes nothing.
use Prim.Native.Nat.{ℕ, suc, ◌+◌, ◌-◌, ◌*◌, ◌/◌, ◌%◌, ◌≤◌, ◌<◌, ◌^◌}
use native.Mathlib.Numerals.{add-one}
use native.Mathlib.Omega.{arith}
use mathlib.Core.Path.{◌≡◌, refl, ap, sym, ◌∙◌}
use mathlib.Core.List.{List, ◌++◌}
use borrow.Author.Count.{below_more}
use lib.Bits.{bit_xor, xor_zero_r}
use lib.ListN.{length, get_or, set, length-set, length-append, get_or-append}
use lib.Seq.{get_or-set_same, get_or-set_other}
use Rattle.laws.proofs.Xor.{xor_assoc}
use Rattle.hash.specs.Table.{entry_of}
use Rattle.hash.specs.inner.Tables.{Entries, zero_on, zeros_on, lent_of, Tables}
use Rattle.hash.specs.Hash.{hash_byte}
use Rattle.hash.proofs.Linear.{zeros_none, zeros_more}

-- one byte through T
pub byte_step : (t : List ℕ) (h b i a : ℕ) → Entries t → i ≡ bit_xor h b % 256 → a ≡ get_or t i 0 → bit_xor a (h / 256) ≡ hash_byte h b
unfolding hash_byte
byte_step t h b i a s p q = ap (λ (n : ℕ). bit_xor n (h / 256)) (q ∙ s.at i (omega arith) ∙ ap entry_of p)

-- the list has room for all, and holds the first n entries
pub record Filled (t : List ℕ) (n : ℕ) : Type 0 where
  pub long : length t ≡ 2048
  pub at : (k : ℕ) → k < n → get_or t k 0 ≡ lent_of k

pub filled-all : (t : List ℕ) (n : ℕ) → 2048 ≤ n → Filled t n → Tables t
filled-all t n e f = record { long = f.long; at = λ k h. f.at k (omega arith) }

-- one entry more
pub filled_more : (t : List ℕ) (i x : ℕ) → i < 2048 → x ≡ lent_of i → Filled t i → Filled (set t i x) (i + 1)
filled_more t i x h p f = record {
  long = length-set t i x ∙ f.long;
  at =
      below_more (λ (k : ℕ). get_or (set t i x) k 0 ≡ lent_of k) i (λ k l. get_or-set_other t i k x 0 (omega arith) ∙ f.at k l)
      (get_or-set_same t i x 0 (omega (arith, f.long)) ∙ p);
}

-- entry i of T, k zero bytes on
lent_at : (m k i : ℕ) → m ≡ 256 * k + i → i < 256 → lent_of m ≡ zeros_on k (entry_of i)
unfolding lent_of
lent_at m k i e h =
    let a : m / 256 ≡ k = omega arith in
    let b : m % 256 ≡ i = omega arith in
    ap (λ (n : ℕ). zeros_on n (entry_of (m % 256))) a ∙ ap (λ (n : ℕ). zeros_on k (entry_of n)) b

-- T stands first
pub filled_first : (s d : List ℕ) → length s ≡ 256 → length d ≡ 1792 → Entries s → Filled (s ++ d) 256
unfolding zeros_on
filled_first s d l m t = record {
  long = omega (arith, length-append s d);
  at = λ k h. get_or-append s d 0 k (omega arith) ∙ t.at k h ∙ sym (lent_at k 0 k (omega arith) h);
}

-- how one of the other entries is made
pub next_made : (s : List ℕ) (i e w j : ℕ) → Entries s → 256 ≤ i → e ≡ lent_of (i - 256) → w ≡ e → j ≡ w % 256 → bit_xor (get_or s j 0) (e / 256) ≡ lent_of i
unfolding zero_on zeros_on lent_of
next_made s i e w j t h p q r =
    ap (λ (m : ℕ). bit_xor m (e / 256)) (t.at j (omega arith) ∙ ap entry_of (r ∙ ap (λ (m : ℕ). m % 256) q))
    ∙ ap zero_on p
    ∙ sym (lent_at i (suc ((i - 256) / 256)) ((i - 256) % 256) (omega arith) (omega arith))

-- x goes on by n zero bytes, one more than k: its low byte through table k, the rest of it by k
module _ (t : List ℕ) (s : Tables t) where
  step : (k n x y m i a r : ℕ) → k < 8 → n ≡ k + 1 → i ≡ x % 256 → m ≡ 256 * k + i → a ≡ get_or t m 0 → y ≡ x / 256 → r ≡ zeros_on k y
      → bit_xor a r ≡ zeros_on n x
  step k n x y m i a r l o p u q d e =
      ap (λ (n : ℕ). bit_xor n r) (q ∙ s.at m (omega arith) ∙ lent_at m k i u (omega arith) ∙ ap (λ (n : ℕ). zeros_on k (entry_of n)) p)
      ∙ ap (bit_xor (zeros_on k (entry_of (x % 256)))) (e ∙ ap (zeros_on k) d)
      ∙ sym (ap (λ (n : ℕ). zeros_on n x) (o ∙ add-one k) ∙ zeros_more k x)

  -- one character through them
  pub one_step : (x i j a b : ℕ) → i ≡ x % 256 → j ≡ x / 256 % 256 → a ≡ get_or t (256 + i) 0 → b ≡ get_or t j 0
      → bit_xor a (bit_xor b (x / 65536)) ≡ zeros_on 2 x
  unfolding zeros_on
  one_step x i j a b p q y z =
      step 1 2 x (x / 256) _ i a _ (omega arith) refl p refl y refl
      (step 0 1 (x / 256) (x / 65536) _ j b _ (omega arith) refl q (omega arith) z (omega arith) refl)

  -- four bytes of a hash, and k zero bytes more
  pub four_step : (k x i j m l a b c d : ℕ) → k ≤ 4 → x < 2 ^ 32 → i ≡ x % 256 → j ≡ x / 256 % 256 → m ≡ x / 65536 % 256 → l ≡ x / 16777216 % 256
      → (a ≡ get_or t (256 * k + 768 + i) 0) × (a < 2 ^ 32) → b ≡ get_or t (256 * k + 512 + j) 0 → c ≡ get_or t (256 * k + 256 + m) 0 → d ≡ get_or t (256 * k + l) 0
      → bit_xor (bit_xor a b) (bit_xor c d) ≡ zeros_on (k + 4) x
  four_step k x i j m l a b c d o h p q r s y z v w =
      xor_assoc 32 a b (bit_xor c d) y.1
      ∙ step (k + 3) (k + 4) x (x / 256) _ i a _ (omega arith) (omega arith) p (omega arith) y.0 refl
      (step (k + 2) (k + 3) (x / 256) (x / 65536) _ j b _ (omega arith) (omega arith) q (omega arith) z (omega arith)
      (step (k + 1) (k + 2) (x / 65536) (x / 16777216) _ m c _ (omega arith) (omega arith) r (omega arith) v (omega arith)
      (sym (xor_zero_r d) ∙ step k (k + 1) (x / 16777216) 0 _ l d 0 (omega arith) refl s refl w (omega arith) (sym (zeros_none k)))))
