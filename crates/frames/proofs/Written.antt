-- Bytes written one by one: what is left to write. Assumes nothing.
use mathlib.Core.Path.{◌≡◌, refl, sym, ap, ◌∙◌}
use mathlib.Core.Bool.{true}
use mathlib.Core.List.{List, [], ◌∷◌}
use Prim.Native.Nat.{ℕ, ◌+◌, ◌*◌, ◌≤◌, ◌<◌}
use native.Mathlib.Nat.{add-zero}
use native.Mathlib.Omega.{arith}
use lib.ListN.{length, get_or, drop, set, length-set}
use Rattle.laws.specs.inner.Lists.{splice}
use Rattle.laws.proofs.Splice.{splice_nil, splice_cons}
use Rattle.std.specs.Prelude.{Some}
use Rattle.frames.specs.Lines.{are_bytes, bytes_of}
use Rattle.frames.specs.inner.Reading.{first_line, byte_of}
use Rattle.frames.proofs.Pairs.{Next, next_bytes}

-- of the k bytes that the digits from p on write i stand in d, from n on, and those of the digits from at on are left
pub record Writing (s : List ℕ) (p k n : ℕ) (d₀ : List ℕ) (i at : ℕ) (d : List ℕ) : Type 0 where
  pub bytes : are_bytes (first_line (drop at s)) ≡ true
  pub left : i + length (bytes_of (first_line (drop at s))) ≡ k
  pub room : n + k ≤ length d
  pub size : length d ≡ length d₀
  pub whole : splice d (n + i) (bytes_of (first_line (drop at s))) ≡ splice d₀ n (bytes_of (first_line (drop p s)))

module _ {s : List ℕ} {p k n : ℕ} {d₀ : List ℕ} where
  pub write_start : are_bytes (first_line (drop p s)) ≡ true → length (bytes_of (first_line (drop p s))) ≡ k → n + k ≤ length d₀
      → Writing s p k n d₀ 0 (p + 2 * 0) d₀
  write_start b e r = rw (add-zero p) (record { bytes = b; left = omega arith; room = r; size = refl; whole = rw add-zero })

  module _ {i at : ℕ} {d : List ℕ} (h : Writing s p k n d₀ i at d) where
    pub write_next : i < k → Next s at
    write_next b = next_bytes s at h.bytes (omega (arith, h.left))

    pub write_more : (j v : ℕ) → j ≡ at + 2 → i < k → Some v ≡ byte_of (get_or s at 0) (get_or s (at + 1) 0)
        → Writing s p k n d₀ (i + 1) j (set d (n + i) v)
    write_more j v q b e =
        let x = write_next b in
        let r : List ℕ = bytes_of (first_line (drop (at + 2) s)) in
        let m : n + i + 1 ≡ n + (i + 1) = omega arith in
        let f : bytes_of (first_line (drop at s)) ≡ v ∷ r = (let z : x.value ≡ v = (let u = x.pair in cc) in x.bytes ∙ ap (λ (y : ℕ). y ∷ r) z) in
        rw q (record {
          bytes = x.more;
          left = omega (arith, h.left, ap length f);
          room = simp length-set h.room;
          size = simp length-set h.size;
          whole =
              ap (λ (y : ℕ). splice (set d (n + i) v) y r) (sym m)
              ∙ sym (splice_cons d (n + i) v r (omega (arith, h.room)))
              ∙ ap (splice d (n + i)) (sym f)
              ∙ h.whole;
        })

    pub write_end : k ≤ i → d ≡ splice d₀ n (bytes_of (first_line (drop p s)))
    write_end b = sym (none (bytes_of (first_line (drop at s))) (omega (arith, h.left))) ∙ h.whole
      where
        none : (r : List ℕ) → length r ≡ 0 → splice d (n + i) r ≡ d
        none [] e = splice_nil d (n + i)
        none (x ∷ r) e = absurd (omega arith)
