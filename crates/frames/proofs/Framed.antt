-- When the first line is a frame, in the terms of what stands there. Assumes nothing.
use mathlib.Core.Path.{◌≡◌, sym, ap, ◌∙◌}
use mathlib.Core.Bool.{true, false, ◌&&◌}
use mathlib.Core.List.{List, [], ◌∷◌}
use Prim.Native.Nat.{ℕ, ◌+◌, ◌-◌, ◌*◌, ◌≤◌, ◌<◌}
use native.Mathlib.Omega.{arith}
use lib.Dec.{eqb, leb}
use lib.ListN.{length, get_or, take, drop, length-drop}
use lib.Seq.{drop-drop, get_or-drop}
use borrow.Author.Tests.{eq-eqb, eqb-true, le-leb, leb-true}
use Rattle.std.specs.Prelude.{Some, None}
use Rattle.frames.specs.Lines.{digits, number_from, are_bytes, bytes_of}
use Rattle.frames.specs.Frames.{most, starts_at, data_of, is_frame}
use Rattle.frames.specs.inner.Reading.{first_line, offset_of, bytes_written}
use Rattle.frames.proofs.Tests.{by_test, and_left, and_right}
use Rattle.frames.proofs.Lines.{digits-line, take-line, drop-line, get_line, line-inside}
use Rattle.frames.proofs.Pairs.{some_bytes, bytes-length}

-- an offset does not see where the line ends
starts_line : (n : ℕ) (s : List ℕ) → starts_at n (first_line s) ≡ starts_at n s
unfolding starts_at
starts_line n s =
    by_test (digits (take 8 s))
    (λ e. rw (take-line 8 s e, get_line 8 s e))
    (λ e. simp (digits-line 8 s, e))

space_line : (s : List ℕ) → get_or s 0 0 ≡ 32 → drop 1 (first_line s) ≡ first_line (drop 1 s)
space_line [] h = absurd (omega arith)
space_line (c ∷ cs) h = rw (line-inside c cs (ap (λ (x : ℕ). eqb x 10) h))

starts_digits : (n : ℕ) (s : List ℕ) → starts_at n s ≡ true → digits (take 8 s) ≡ true
unfolding starts_at
starts_digits n s h = and_left (digits (take 8 s)) _ (and_left _ (eqb (get_or s 8 0) 32) h)

starts_space : (n : ℕ) (s : List ℕ) → starts_at n s ≡ true → get_or s 8 0 ≡ 32
unfolding starts_at
starts_space n s h = eqb-true (get_or s 8 0) 32 (and_right (digits (take 8 s) && eqb (number_from 0 (take 8 s)) n) (eqb (get_or s 8 0) 32) h)

body_line : (n : ℕ) (s : List ℕ) → starts_at n s ≡ true → drop 9 (first_line s) ≡ first_line (drop 9 s)
body_line n s h =
    let a : drop 8 (first_line s) ≡ first_line (drop 8 s) = drop-line 8 s (starts_digits n s h) in
    let b : get_or (drop 8 s) 0 0 ≡ 32 = get_or-drop 8 s 0 0 ∙ starts_space n s h in
    sym (drop-drop 1 8 (first_line s)) ∙ ap (drop 1) a ∙ space_line (drop 8 s) b ∙ ap first_line (drop-drop 1 8 s)

-- what makes the first line a frame after n bytes
pub record Framed (n : ℕ) (s : List ℕ) : Type 0 where
  pub starts : starts_at n s ≡ true
  pub bytes : are_bytes (first_line (drop 9 s)) ≡ true
  pub some : 1 ≤ length (bytes_of (first_line (drop 9 s)))
  pub few : length (bytes_of (first_line (drop 9 s))) ≤ 32
  pub room : n + length (bytes_of (first_line (drop 9 s))) ≤ 32768

pub framed : {n : ℕ} {s : List ℕ} → Framed n s → is_frame n (first_line s) ≡ true
unfolding is_frame data_of most
framed {n} {s} f =
    rw (starts_line n s, body_line n s f.starts, f.starts, f.bytes, le-leb _ _ f.some, le-leb _ _ f.few, le-leb _ _ f.room)

pub frame_inv : (n : ℕ) (s : List ℕ) → is_frame n (first_line s) ≡ true → Framed n s
unfolding is_frame data_of most
frame_inv n s h =
    let a = and_left (starts_at n (first_line s) && are_bytes (drop 9 (first_line s))) _ h in
    let st : starts_at n s ≡ true = sym (starts_line n s) ∙ and_left (starts_at n (first_line s)) _ a in
    let e : drop 9 (first_line s) ≡ first_line (drop 9 s) = body_line n s st in
    let k : ℕ = length (bytes_of (first_line (drop 9 s))) in
    let b : ((leb 1 k && leb k 32) && leb (n + k) 32768) ≡ true =
    rw e at (and_right (starts_at n (first_line s) && are_bytes (drop 9 (first_line s))) _ h) in
    let c = and_left (leb 1 k && leb k 32) (leb (n + k) 32768) b in
    record {
      starts = st;
      bytes = rw e at (and_right (starts_at n (first_line s)) (are_bytes (drop 9 (first_line s))) a);
      some = leb-true 1 k (and_left (leb 1 k) (leb k 32) c);
      few = leb-true k 32 (and_right (leb 1 k) (leb k 32) c);
      room = leb-true (n + k) 32768 (and_right (leb 1 k && leb k 32) (leb (n + k) 32768) b);
    }

no_frame : (n : ℕ) (s : List ℕ) → (Framed n s → ⊥) → is_frame n (first_line s) ≡ false
no_frame n s h = by_test (is_frame n (first_line s)) (λ e. absurd (h (frame_inv n s e))) (λ e. e)

framed_offset : (n : ℕ) (s : List ℕ) → starts_at n s ≡ true → offset_of s ≡ Some n
unfolding offset_of starts_at
framed_offset n s h =
    rw (starts_digits n s h, eq-eqb (get_or s 8 0) 32 (starts_space n s h))
    (ap Some (eqb-true (number_from 0 (take 8 s)) n (and_right (digits (take 8 s)) _ (and_left _ (eqb (get_or s 8 0) 32) h))))

offset_framed : (n : ℕ) (s : List ℕ) → offset_of s ≡ Some n → starts_at n s ≡ true
unfolding offset_of starts_at
offset_framed n s h =
    by_test (digits (take 8 s) && eqb (get_or s 8 0) 32)
    (λ e. let x = and_left (digits (take 8 s)) _ e in
    let y = and_right (digits (take 8 s)) _ e in
    let w : number_from 0 (take 8 s) ≡ n = (let u = simp e at h in cc) in
    rw (x, y, eq-eqb (number_from 0 (take 8 s)) n w))
    (λ e. let u = simp e at h in absurd (cc))

pub framed_count : {n : ℕ} {s : List ℕ} → Framed n s → bytes_written (drop 9 s) ≡ Some (length (bytes_of (first_line (drop 9 s))))
unfolding bytes_written
framed_count {n} {s} f = rw (f.bytes, le-leb _ _ f.few)

framed_long : {n : ℕ} {s : List ℕ} → Framed n s → 9 < length s
framed_long {n} {s} f = omega (arith, some_bytes (drop 9 s) f.bytes f.some, length-drop 9 s)

count_inv : (s : List ℕ) (k : ℕ) → bytes_written s ≡ Some k → (are_bytes (first_line s) && leb (length (bytes_of (first_line s))) 32) ≡ true
unfolding bytes_written
count_inv s k h = by_test (are_bytes (first_line s) && leb (length (bytes_of (first_line s))) 32) (λ e. e) (λ e. let u = simp e at h in absurd (cc))

count-value : (s : List ℕ) → (are_bytes (first_line s) && leb (length (bytes_of (first_line s))) 32) ≡ true → bytes_written s ≡ Some (length (bytes_of (first_line s)))
unfolding bytes_written
count-value s h = simp h

-- some bytes were counted, so they stand there
pub record Counted (s : List ℕ) (k : ℕ) : Type 0 where
  pub bytes : are_bytes (first_line s) ≡ true
  pub few : length (bytes_of (first_line s)) ≤ 32
  pub count : k ≡ length (bytes_of (first_line s))

pub counted : (s : List ℕ) (k : ℕ) → bytes_written s ≡ Some k → Counted s k
counted s k h =
    let e = count_inv s k h in
    let v = count-value s e in
    record {
      bytes = and_left (are_bytes (first_line s)) _ e;
      few = leb-true (length (bytes_of (first_line s))) 32 (and_right (are_bytes (first_line s)) _ e);
      count = cc;
    }

-- each test of the line at p, where it is no frame; and all of them passed
module _ (s : List ℕ) (p n : ℕ) where
  rest-count : bytes_written (drop 9 (drop p s)) ≡ bytes_written (drop (p + 9) s)
  rest-count = ap bytes_written (drop-drop 9 p s)

  pub too_short : length s - p < 9 → is_frame n (first_line (drop p s)) ≡ false
  too_short h = no_frame n (drop p s) (λ f. omega (arith, framed_long f, length-drop p s))

  pub offset_off : (offset_of (drop p s) ≡ Some n → ⊥) → is_frame n (first_line (drop p s)) ≡ false
  offset_off h = no_frame n (drop p s) (λ f. h (framed_offset n (drop p s) f.starts))

  pub bytes_off : bytes_written (drop (p + 9) s) ≡ None → is_frame n (first_line (drop p s)) ≡ false
  bytes_off h = no_frame n (drop p s) (λ f. let e = framed_count f in let g = rest-count in absurd (cc))

  -- where k bytes follow
  module _ (k : ℕ) (e : bytes_written (drop (p + 9) s) ≡ Some k) where
    rest : Counted (drop 9 (drop p s)) k
    rest = counted (drop 9 (drop p s)) k (rest-count ∙ e)

    pub none_off : k ≡ 0 → is_frame n (first_line (drop p s)) ≡ false
    none_off h = no_frame n (drop p s) (λ f. omega (arith, rest.count, f.some))

    pub room_off : 32768 < n + k → is_frame n (first_line (drop p s)) ≡ false
    room_off h = no_frame n (drop p s) (λ f. omega (arith, rest.count, f.room))

    pub all_pass : offset_of (drop p s) ≡ Some n → (k ≡ 0 → ⊥) → n + k ≤ 32768 → Framed n (drop p s)
    all_pass o h r = record {
      starts = offset_framed n (drop p s) o;
      bytes = rest.bytes;
      some = omega (arith, h, rest.count);
      few = rest.few;
      room = omega (arith, rest.count);
    }

pub framed_length : {n : ℕ} {s : List ℕ} → Framed n s → length (first_line s) ≡ 10 + 2 * length (bytes_of (first_line (drop 9 s)))
framed_length {n} {s} f =
    let a = bytes-length (first_line (drop 9 s)) f.bytes in
    let b = ap length (body_line n s f.starts) in
    omega (arith, length-drop 9 (first_line s))

pub framed_data : {n : ℕ} {s : List ℕ} → Framed n s → data_of (first_line s) ≡ bytes_of (first_line (drop 9 s))
unfolding data_of
framed_data {n} {s} f = ap bytes_of (body_line n s f.starts)
