-- Pairs of digits up to a newline: how many, and what they write. Assumes nothing.
use mathlib.Core.Path.{◌≡◌, refl, sym, ap, ◌∙◌}
use mathlib.Core.Bool.{true, false, cond, ◌&&◌, true≢false}
use mathlib.Core.List.{List, [], ◌∷◌}
use Prim.Native.Nat.{ℕ, suc, ◌+◌, ◌-◌, ◌*◌, ◌≤◌, ◌<◌}
use native.Mathlib.Nat.{add-zero, zero-add}
use native.Mathlib.Omega.{arith}
use native.Mathlib.Numerals.{add-one, add-two}
use lib.Dec.{eqb, leb}
use lib.ListN.{length, get_or, drop, length-drop, drop_of_length-le}
use lib.Seq.{drop-cons}
use borrow.Author.Tests.{eq-eqb, ne_eqb, le-leb, lt-leb}
use Rattle.std.specs.Prelude.{Option, Some, None}
use Rattle.frames.specs.Lines.{is_digit, digit_of, are_bytes, bytes_of}
use Rattle.frames.specs.inner.Reading.{first_line, value_of, byte_of, bytes_written}
use Rattle.frames.proofs.Tests.{by_test, and_left, and_right}
use Rattle.frames.proofs.Digits.{value_inv, none_inv, digit_inside}
use Rattle.frames.proofs.Lines.{line-inside}

-- two bytes from an index on
pub drop-two : (s : List ℕ) (i : ℕ) → i + 2 ≤ length s → drop i s ≡ get_or s i 0 ∷ get_or s (i + 1) 0 ∷ drop (i + 2) s
drop-two s i h =
    rw (add-one, add-two)
    (drop-cons s i 0 (omega arith) ∙ ap (λ (r : List ℕ). get_or s i 0 ∷ r) (drop-cons s (suc i) 0 (omega arith)))

-- the byte of two digits whose values are x and y
pub byte_high : (c d : ℕ) → None ≡ value_of c → None ≡ byte_of c d
unfolding byte_of
byte_high c d e = simp (none_inv c e)

pub byte_low : (c d x : ℕ) → Some x ≡ value_of c → None ≡ value_of d → None ≡ byte_of c d
unfolding byte_of
byte_low c d x e f = simp ((value_inv c x e).digit, none_inv d f)

pub byte_both : (c d x y : ℕ) → Some x ≡ value_of c → Some y ≡ value_of d → Some (x * 16 + y) ≡ byte_of c d
unfolding byte_of
byte_both c d x y e f =
    let u = value_inv c x e in
    let v = value_inv d y f in
    simp (u.digit, v.digit, u.is, v.is)

byte_digits : (c d : ℕ) → is_digit c ≡ true → is_digit d ≡ true → byte_of c d ≡ Some (digit_of c * 16 + digit_of d)
unfolding byte_of
byte_digits c d h k = simp (h, k)

byte_none : (c d : ℕ) → byte_of c d ≡ None → (is_digit c && is_digit d) ≡ false
unfolding byte_of
byte_none c d h = by_test (is_digit c && is_digit d) (λ e. let u = simp e at h in absurd (cc)) (λ e. e)

byte_some : (c d v : ℕ) → byte_of c d ≡ Some v → (is_digit c && is_digit d) ≡ true
unfolding byte_of
byte_some c d v h = by_test (is_digit c && is_digit d) (λ e. e) (λ e. let u = simp e at h in absurd (cc))

pair_line : (c d : ℕ) (s : List ℕ) → is_digit c ≡ true → is_digit d ≡ true → first_line (c ∷ d ∷ s) ≡ c ∷ d ∷ first_line s
pair_line c d s h k =
    line-inside c (d ∷ s) (digit_inside c h) ∙ ap (λ (r : List ℕ). c ∷ r) (line-inside d s (digit_inside d k))

-- the count where k pairs stand before
unfoldable pub count_from : ℕ → List ℕ → Option ℕ
count_from k s =
    cond (are_bytes (first_line s) && leb (k + length (bytes_of (first_line s))) 32) (Some (k + length (bytes_of (first_line s)))) None

count_over : (k : ℕ) (s : List ℕ) → 32 < k → count_from k s ≡ None
unfolding count_from
count_over k s h =
    by_test (are_bytes (first_line s)) (λ e. simp (e, lt-leb (k + length (bytes_of (first_line s))) 32 (omega arith))) (λ e. simp e)

count_none : (k : ℕ) (s : List ℕ) → are_bytes (first_line s) ≡ false → count_from k s ≡ None
unfolding count_from
count_none k s e = simp e

newline_line : (c : ℕ) (cs : List ℕ) → c ≡ 10 → first_line (c ∷ cs) ≡ c ∷ []
unfolding first_line
newline_line c cs h = simp (eq-eqb c 10 h)

front_newline : (k c : ℕ) (cs : List ℕ) → c ≡ 10 → k ≤ 32 → count_from k (c ∷ cs) ≡ Some k
unfolding count_from are_bytes bytes_of
front_newline k c cs h b = rw (newline_line c cs h, eq-eqb c 10 h) (rw (add-zero, le-leb k 32 b))

front_single : (k c : ℕ) → (c ≡ 10 → ⊥) → count_from k (c ∷ []) ≡ None
unfolding first_line are_bytes
front_single k c h = count_none k (c ∷ []) (simp (ne_eqb c 10 h))

front_other : (k c d : ℕ) (cs : List ℕ) → (c ≡ 10 → ⊥) → byte_of c d ≡ None → count_from k (c ∷ d ∷ cs) ≡ None
unfolding first_line are_bytes
front_other k c d cs h e = count_none k (c ∷ d ∷ cs) (simp (ne_eqb c 10 h, byte_none c d e))

front_more : (k c d v : ℕ) (cs : List ℕ) → byte_of c d ≡ Some v → count_from k (c ∷ d ∷ cs) ≡ count_from (k + 1) cs
unfolding count_from are_bytes bytes_of
front_more k c d v cs h =
    let e = byte_some c d v h in
    let a = and_left (is_digit c) (is_digit d) e in
    let b = and_right (is_digit c) (is_digit d) e in
    let n : k + suc (length (bytes_of (first_line cs))) ≡ k + 1 + length (bytes_of (first_line cs)) = omega arith in
    rw (pair_line c d cs a b, e, n)

no_line : (k : ℕ) → count_from k [] ≡ None
unfolding first_line are_bytes
no_line k = count_none k [] refl

-- k pairs of digits from p on are read, up to i
pub record Counting (s : List ℕ) (p k i : ℕ) : Type 0 where
  pub inside : i ≤ length s
  pub few : k ≤ 33
  pub whole : bytes_written (drop p s) ≡ count_from k (drop i s)

module _ {s : List ℕ} {p : ℕ} where
  pub count_start : p ≤ length s → Counting s p 0 (p + 2 * 0)
  unfolding bytes_written count_from
  count_start h = record { inside = omega arith; few = omega arith; whole = rw (add-zero p, zero-add) }

  module _ {k i : ℕ} (h : Counting s p k i) where
    pub count_end : length s ≤ i → None ≡ bytes_written (drop p s)
    count_end b = sym (h.whole ∙ ap (count_from k) (drop_of_length-le s b) ∙ no_line k)

    pub count_newline : i < length s → get_or s i 0 ≡ 10 → k ≤ 32 → Some k ≡ bytes_written (drop p s)
    count_newline b e f =
        sym (h.whole ∙ ap (count_from k) (drop-cons s i 0 b) ∙ front_newline k (get_or s i 0) (drop (suc i) s) e f)

    pub count_single : i < length s → length s - i < 2 → (get_or s i 0 ≡ 10 → ⊥) → None ≡ bytes_written (drop p s)
    count_single b f e =
        let q : length s ≤ suc i = omega arith in
        let z : drop i s ≡ get_or s i 0 ∷ [] = drop-cons s i 0 b ∙ ap (λ (r : List ℕ). get_or s i 0 ∷ r) (drop_of_length-le s q) in
        sym (h.whole ∙ ap (count_from k) z ∙ front_single k (get_or s i 0) e)

    pub count_other : {b : Option ℕ} → 2 ≤ length s - i → (get_or s i 0 ≡ 10 → ⊥) → b ≡ byte_of (get_or s i 0) (get_or s (i + 1) 0) → b ≡ None
        → None ≡ bytes_written (drop p s)
    count_other f e g v =
        let z = drop-two s i (omega arith) in
        sym (h.whole ∙ ap (count_from k) z ∙ front_other k (get_or s i 0) (get_or s (i + 1) 0) (drop (i + 2) s) e (sym g ∙ v))

    pub count_more : {b : Option ℕ} {v : ℕ} (j : ℕ) → j ≡ i + 2 → k ≤ 32 → 2 ≤ length s - i → b ≡ byte_of (get_or s i 0) (get_or s (i + 1) 0) → b ≡ Some v
        → Counting s p (k + 1) j
    count_more {b} {v} j m l f g q =
        let z = drop-two s i (omega arith) in
        let w = front_more k (get_or s i 0) (get_or s (i + 1) 0) v (drop (i + 2) s) (sym g ∙ q) in
        record { inside = omega arith; few = omega arith; whole = h.whole ∙ ap (count_from k) z ∙ w ∙ ap (λ (x : ℕ). count_from (k + 1) (drop x s)) (sym m) }

    pub count-all : 32 < k → None ≡ bytes_written (drop p s)
    count-all b = sym (h.whole ∙ count_over k (drop i s) b)

-- what stands where the digits of at least one byte more are known to follow
pub record Next (s : List ℕ) (i : ℕ) : Type 0 where
  pub room : i + 2 ≤ length s
  pub value : ℕ
  pub pair : byte_of (get_or s i 0) (get_or s (i + 1) 0) ≡ Some value
  pub more : are_bytes (first_line (drop (i + 2) s)) ≡ true
  pub bytes : bytes_of (first_line (drop i s)) ≡ value ∷ bytes_of (first_line (drop (i + 2) s))

pub some_bytes : (s : List ℕ) → are_bytes (first_line s) ≡ true → 0 < length (bytes_of (first_line s)) → 2 ≤ length s
unfolding first_line are_bytes bytes_of
some_bytes [] h b = absurd (omega arith)
some_bytes (c ∷ []) h b = by_test (eqb c 10) (λ e. absurd (omega (arith, simp e at b))) (λ e. absurd (omega (arith, simp e at b)))
some_bytes (c ∷ d ∷ cs) h b = omega arith

some-digits : (c d : ℕ) (s : List ℕ) → are_bytes (first_line (c ∷ d ∷ s)) ≡ true → 0 < length (bytes_of (first_line (c ∷ d ∷ s)))
    → (is_digit c && is_digit d) ≡ true
unfolding first_line are_bytes bytes_of
some-digits c d s h b =
    by_test (eqb c 10)
    (λ e. absurd (omega (arith, simp e at b)))
    (λ e. and_left (is_digit c && is_digit d) (are_bytes (cond (eqb d 10) [] (first_line s))) (simp e at h))

pub next_bytes : (s : List ℕ) (i : ℕ) → are_bytes (first_line (drop i s)) ≡ true → 0 < length (bytes_of (first_line (drop i s))) → Next s i
unfolding are_bytes bytes_of
next_bytes s i h b =
    let room : i + 2 ≤ length s = omega (arith, some_bytes (drop i s) h b, length-drop i s) in
    let c : ℕ = get_or s i 0 in
    let d : ℕ = get_or s (i + 1) 0 in
    let e : drop i s ≡ c ∷ d ∷ drop (i + 2) s = drop-two s i room in
    let both : (is_digit c && is_digit d) ≡ true = some-digits c d (drop (i + 2) s) (rw e at h) (rw e at b) in
    let x : is_digit c ≡ true = and_left (is_digit c) (is_digit d) both in
    let y : is_digit d ≡ true = and_right (is_digit c) (is_digit d) both in
    let l : first_line (drop i s) ≡ c ∷ d ∷ first_line (drop (i + 2) s) = ap first_line e ∙ pair_line c d (drop (i + 2) s) x y in
    record {
      room = room;
      value = digit_of c * 16 + digit_of d;
      pair = byte_digits c d x y;
      more = and_right (is_digit c && is_digit d) (are_bytes (first_line (drop (i + 2) s))) (rw l at h);
      bytes = ap bytes_of l;
    }

-- the newline and two digits a byte
pub bytes-length : (l : List ℕ) → are_bytes l ≡ true → length l ≡ 2 * length (bytes_of l) + 1
unfolding are_bytes bytes_of
bytes-length [] h = absurd (true≢false (sym h))
bytes-length (c ∷ []) h = omega arith
bytes-length (c ∷ d ∷ cs) h = omega (arith, bytes-length cs (and_right (is_digit c && is_digit d) (are_bytes cs) h))
