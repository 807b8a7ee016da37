-- Numbers read from two files that agree outside the four bytes at x; a word written there, and the old word put back.
-- Groundwork for request T-12. Assumes nothing.
use Prim.Native.Nat.{ℕ, zero, suc, ◌+◌, ◌-◌, ◌*◌, ◌/◌, ◌%◌, ◌^◌, ◌≤◌, ◌<◌}
use native.Mathlib.Nat.{add-zero}
use native.Mathlib.Omega.{arith}
use mathlib.Core.Path.{◌≡◌, refl, ap, sym, ◌∙◌}
use mathlib.Core.Logic.{◌⊎◌, inl, inr, ⊎_elim}
use mathlib.Core.List.{List, [], ◌∷◌}
use lib.ListN.{length, get_or}
use lib.Seq.{ext_get_or}
use Rattle.laws.specs.inner.Lists.{splice}
use Rattle.laws.proofs.Order.{le_or_lt}
use Rattle.laws.proofs.Splice.{splice-length, splice-before, splice_in, splice-after}
use Rattle.le.specs.Le.{u16_at, u32_at, u64_at, le4}
use Rattle.le.proofs.Four.{le4_front}
use Rattle.le.proofs.Numbers.{Bytes}

pub record Agree (b c : List ℕ) (x : ℕ) : Type 0 where
  pub long : length c ≡ length b
  pub before : (i : ℕ) → i < x → get_or c i 0 ≡ get_or b i 0
  pub after : (i : ℕ) → x + 4 ≤ i → get_or c i 0 ≡ get_or b i 0

-- writing four bytes changes no other byte
splice_agree : (b : List ℕ) (x : ℕ) (w : List ℕ) → length w ≡ 4 → x + 4 ≤ length b → Agree b (splice b x w) x
splice_agree b x w n h =
    record {
      long = splice-length b x w (omega arith);
      before = λ i l. splice-before b x w i (omega arith) l;
      after = λ i l. splice-after b x w i (omega arith) (omega arith);
    }

-- none of the n bytes at p is one of the four
abbrev pub Off : ℕ → ℕ → ℕ → Type 0
Off x p n = (p + n ≤ x) ⊎ (x + 4 ≤ p)

module _ {b c : List ℕ} {x : ℕ} (a : Agree b c x) where
  byte_same : (p n i : ℕ) → Off x p n → i < n → get_or c (p + i) 0 ≡ get_or b (p + i) 0
  byte_same p n i h l = ⊎_elim (λ d. a.before (p + i) (omega arith)) (λ d. a.after (p + i) (omega arith)) h

  head-same : (p n : ℕ) → Off x p n → 0 < n → get_or c p 0 ≡ get_or b p 0
  head-same p n h l = ⊎_elim (λ d. a.before p (omega arith)) (λ d. a.after p (omega arith)) h

  pub u16_same : (p : ℕ) → Off x p 2 → u16_at c p ≡ u16_at b p
  unfolding u16_at
  u16_same p h = rw (head-same p 2 h (omega arith), byte_same p 2 1 h (omega arith))

  pub u32_same : (p : ℕ) → Off x p 4 → u32_at c p ≡ u32_at b p
  unfolding u32_at
  u32_same p h = rw (head-same p 4 h (omega arith), byte_same p 4 1 h (omega arith), byte_same p 4 2 h (omega arith), byte_same p 4 3 h (omega arith))

  pub u64_same : (p : ℕ) → Off x p 8 → u64_at c p ≡ u64_at b p
  unfolding u64_at
  u64_same p h =
      let k : Off x p 4 = ⊎_elim (λ d. inl (omega arith)) (λ d. inr (omega arith)) h in
      let l : Off x (p + 4) 4 = ⊎_elim (λ d. inl (omega arith)) (λ d. inr (omega arith)) h in
      rw (u32_same p k, u32_same (p + 4) l)

-- ---- a word written into a file, and the old word put back

le4-length : (w : ℕ) → length (le4 w) ≡ 4
unfolding le4
le4-length w = refl

le4-of : (p q r s : ℕ) → p < 256 → q < 256 → r < 256 → s < 256 → le4 (p + q * 256 + r * 65536 + s * 16777216) ≡ p ∷ q ∷ r ∷ s ∷ []
unfolding le4
le4-of p q r s hp hq hr hs =
    let n = p + q * 256 + r * 65536 + s * 16777216 in
    let d1 : n / 256 ≡ q + (r + s * 256) * 256 = omega arith in
    let d2 : n / 65536 ≡ r + s * 256 = omega arith in
    let d3 : n / 16777216 ≡ s = omega arith in
    let e0 : n % 256 ≡ p = omega arith in
    let e1 : (q + (r + s * 256) * 256) % 256 ≡ q = omega arith in
    let e2 : (r + s * 256) % 256 ≡ r = omega arith in
    let e3 : s % 256 ≡ s = omega arith in
    rw (d1, d2, d3, e0, e1, e2, e3)

le4_byte : (w j : ℕ) → get_or (le4 w) j 0 < 256
unfolding le4
le4_byte w zero = omega arith
le4_byte w (suc zero) = omega arith
le4_byte w (suc (suc zero)) = omega arith
le4_byte w (suc (suc (suc zero))) = omega arith
le4_byte w (suc (suc (suc (suc j)))) = omega arith

bytes_read : (w : ℕ) → w < 2 ^ 32 → get_or (le4 w) 0 0 + get_or (le4 w) 1 0 * 256 + get_or (le4 w) 2 0 * 65536 + get_or (le4 w) 3 0 * 16777216 ≡ w
unfolding le4 u32_at
bytes_read w l = le4_front w [] l

one_of_four : (b : List ℕ) (x j : ℕ) → j < 4
    → get_or (get_or b x 0 ∷ get_or b (x + 1) 0 ∷ get_or b (x + 2) 0 ∷ get_or b (x + 3) 0 ∷ []) j 0 ≡ get_or b (x + j) 0
one_of_four b x zero l = ap (λ (k : ℕ). get_or b k 0) (sym (add-zero x))
one_of_four b x (suc zero) l = refl
one_of_four b x (suc (suc zero)) l = refl
one_of_four b x (suc (suc (suc zero))) l = refl
one_of_four b x (suc (suc (suc (suc j)))) l = absurd (omega arith)

module _ (b : List ℕ) (x : ℕ) (h : x + 4 ≤ length b) where
  pub put_agree : (w : ℕ) → Agree b (splice b x (le4 w)) x
  put_agree w = splice_agree b x (le4 w) (le4-length w) h

  put_at : (w j : ℕ) → j < 4 → get_or (splice b x (le4 w)) (x + j) 0 ≡ get_or (le4 w) j 0
  put_at w j l = splice_in b x (le4 w) j (omega arith) (omega (arith, le4-length w))

  pub put_read : (w : ℕ) → w < 2 ^ 32 → u32_at (splice b x (le4 w)) x ≡ w
  unfolding u32_at
  put_read w l =
      let e : get_or (splice b x (le4 w)) x 0 ≡ get_or (le4 w) 0 0 = ap (λ (k : ℕ). get_or (splice b x (le4 w)) k 0) (sym (add-zero x)) ∙ put_at w 0 (omega arith) in
      rw (e, put_at w 1 (omega arith), put_at w 2 (omega arith), put_at w 3 (omega arith)) (bytes_read w l)

  pub put_bytes : Bytes b → (w : ℕ) → Bytes (splice b x (le4 w))
  put_bytes f w i =
      ⊎_elim
      (λ m. ⊎_elim
      (λ n. rw ((put_agree w).after i n) (f i))
      (λ n.
      let e : x + (i - x) ≡ i = omega arith in
      let t : get_or (splice b x (le4 w)) (x + (i - x)) 0 < 256 = rw (put_at w (i - x) (omega arith)) (le4_byte w (i - x)) in
      rw e at t)
      (le_or_lt (x + 4) i))
      (λ m. rw ((put_agree w).before i m) (f i))
      (le_or_lt x i)

  old_at : Bytes b → (j : ℕ) → j < 4 → get_or (le4 (u32_at b x)) j 0 ≡ get_or b (x + j) 0
  unfolding u32_at
  old_at f j l =
      ap (λ (v : List ℕ). get_or v j 0) (le4-of (get_or b x 0) (get_or b (x + 1) 0) (get_or b (x + 2) 0) (get_or b (x + 3) 0) (f x) (f (x + 1)) (f (x + 2)) (f (x + 3)))
      ∙ one_of_four b x j l

  pub put_back : Bytes b → (w : ℕ) → splice (splice b x (le4 w)) x (le4 (u32_at b x)) ≡ b
  put_back f w =
      let a = put_agree w in
      let k : x + 4 ≤ length (splice b x (le4 w)) = omega (arith, a.long) in
      let z = splice_agree (splice b x (le4 w)) x (le4 (u32_at b x)) (le4-length (u32_at b x)) k in
      ext_get_or 0 (splice (splice b x (le4 w)) x (le4 (u32_at b x))) b (z.long ∙ a.long)
      (λ i l. ⊎_elim
      (λ m. ⊎_elim
      (λ n. z.after i n ∙ a.after i n)
      (λ n.
      let e : x + (i - x) ≡ i = omega arith in
      let t : get_or (splice (splice b x (le4 w)) x (le4 (u32_at b x))) (x + (i - x)) 0 ≡ get_or b (x + (i - x)) 0 =
      splice_in (splice b x (le4 w)) x (le4 (u32_at b x)) (i - x) (omega arith) (omega (arith, le4-length (u32_at b x))) ∙ old_at f (i - x) (omega arith) in
      rw e at t)
      (le_or_lt (x + 4) i))
      (λ m. z.before i m ∙ a.before i m)
      (le_or_lt x i))
