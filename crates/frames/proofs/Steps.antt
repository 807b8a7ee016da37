-- One line read, and how far that brings the whole. Assumes nothing.
use mathlib.Core.Path.{◌≡◌, refl, sym, ap, ◌∙◌}
use mathlib.Core.Bool.{true, false}
use mathlib.Core.List.{List, [], ◌++◌}
use Prim.Native.Nat.{ℕ, ◌+◌, ◌-◌, ◌*◌, ◌≤◌, ◌<◌}
use native.Mathlib.Omega.{arith}
use lib.ListN.{length, drop, length-drop, drop_of_length-le}
use lib.Seq.{drop-drop}
use Rattle.laws.specs.inner.Lists.{splice}
use Rattle.laws.proofs.Splice.{splice_nil, splice-append, splice-length}
use Rattle.frames.specs.Lines.{bytes_of}
use Rattle.std.specs.Prelude.{Option, Some, None}
use Rattle.frames.specs.Frames.{data_of, is_frame, file_of, frames_of, Bytes, Bad}
use Rattle.frames.specs.inner.Reading.{first_line, offset_of, bytes_written, given_by, UpTo, line_at}
use Rattle.frames.specs.declared.Frame.{Frame}
use Rattle.frames.proofs.Tests.{by_test}
use Rattle.frames.proofs.Lines.{line-fits, line-some}
use Rattle.frames.proofs.Framed.{framed, frame_inv, framed_length, framed_data, counted, too_short, offset_off, bytes_off, none_off, room_off, all_pass}
use Rattle.frames.proofs.Answers.{file_from, answer_from, file_start, answer_start, file_end, answer_end, file_other, file_frame, answer_other, answer_frame}

-- what the line at p gives: the answer r, and d' for d
abbrev pub Gives : (s : List ℕ) (p n : ℕ) (d : List ℕ) (r : Option Frame) (d' : List ℕ) → Type 0
Gives s p n d r d' = (r ≡ line_at s p n) × (d' ≡ splice d n (given_by n (first_line (drop p s))))

line_other : (s : List ℕ) (p n : ℕ) (d : List ℕ) → is_frame n (first_line (drop p s)) ≡ false → Gives s p n d None d
unfolding line_at given_by
line_other s p n d e = (simp e, simp e (sym (splice_nil d n)))

module _ (s : List ℕ) (p n : ℕ) (d : List ℕ) where
  pub line-short : length s - p < 9 → Gives s p n d None d
  line-short h = line_other s p n d (too_short s p n h)

  pub offset_none : None ≡ offset_of (drop p s) → Gives s p n d None d
  offset_none o = line_other s p n d (offset_off s p n (λ e. absurd (cc)))

  pub line_offset : {x : ℕ} → Some x ≡ offset_of (drop p s) → (x ≡ n → ⊥) → Gives s p n d None d
  line_offset {x} o h = line_other s p n d (offset_off s p n (λ e. h (cc)))

  pub line-bytes : None ≡ bytes_written (drop (p + 9) s) → Gives s p n d None d
  line-bytes c = line_other s p n d (bytes_off s p n (sym c))

  module _ {k : ℕ} (c : Some k ≡ bytes_written (drop (p + 9) s)) where
    pub line-none : k ≡ 0 → Gives s p n d None d
    line-none h = line_other s p n d (none_off s p n k (sym c) h)

    pub line-room : n ≤ 32768 → 32768 - n < k → Gives s p n d None d
    line-room b h = line_other s p n d (room_off s p n k (sym c) (omega arith))

    pub line_frame : {x : ℕ} {d' : List ℕ} → Some x ≡ offset_of (drop p s) → x ≡ n → (k ≡ 0 → ⊥) → n ≤ 32768 → k ≤ 32768 - n
        → d' ≡ splice d n (bytes_of (first_line (drop (p + 9) s)))
        → Gives s p n d (UpTo (p + 10 + 2 * k) (n + k)) d'
    unfolding line_at given_by
    line_frame {x} {d'} o h z b r w =
        let f = all_pass s p n k (sym c) (sym o ∙ ap Some h) z (omega arith) in
        let e = drop-drop 9 p s in
        let v = framed_data f in
        let g : k ≡ length (bytes_of (first_line (drop 9 (drop p s)))) = (counted (drop 9 (drop p s)) k (ap bytes_written e ∙ sym c)).count in
        let q : p + 10 + 2 * k ≡ p + length (first_line (drop p s)) = omega (arith, framed_length f) in
        let m : n + k ≡ n + length (data_of (first_line (drop p s))) = omega (arith, ap length v) in
        let u : d' ≡ splice d n (data_of (first_line (drop p s))) =
        w ∙ ap (λ (t : List ℕ). splice d n (bytes_of (first_line t))) (sym e) ∙ ap (splice d n) (sym v) in
        (simp (framed f) (cc), simp (framed f) u)

same_end : {q m r k : ℕ} → UpTo q m ≡ UpTo r k → (q ≡ r) × (m ≡ k)
same_end {q} {m} {r} {k} e =
    let f : ◌≡◌ {A = Frame} (record { next = q; count = m }) (record { next = r; count = k }) = cc in
    (ap (λ (x : Frame). x.next) f, ap (λ (x : Frame). x.count) f)

-- the lines before p are read: n bytes of them stand in d, and the line at p has this number
pub record Reached (s d₀ d : List ℕ) (n p number : ℕ) : Type 0 where
  pub inside : p ≤ length s
  pub counted : number ≤ p + 1
  pub fits : n ≤ 32768
  pub room : 32768 ≤ length d
  pub size : length d ≡ length d₀
  pub answer : frames_of s ≡ answer_from n number (drop p s)
  pub file : splice d n (file_from n (drop p s)) ≡ splice d₀ 0 (file_of s)

pub reach_start : {s d : List ℕ} → 32768 ≤ length d → Reached s d d 0 0 1
reach_start {s} {d} h =
    record {
      inside = omega arith;
      counted = omega arith;
      fits = omega arith;
      room = h;
      size = refl;
      answer = answer_start s;
      file = ap (splice d 0) (sym (file_start s));
    }

module _ {s d₀ d : List ℕ} {n p number : ℕ} (h : Reached s d₀ d n p number) where
  pub reach_end : length s ≤ p → (Bytes n ≡ frames_of s) × (d ≡ splice d₀ 0 (file_of s))
  reach_end b =
      let z : drop p s ≡ [] = drop_of_length-le s b in (
        sym (h.answer ∙ ap (answer_from n number) z ∙ answer_end n number),
        sym (splice_nil d n) ∙ ap (splice d n) (sym (ap (file_from n) z ∙ file_end n)) ∙ h.file,
      )

  module _ (b : p < length s) where
    some_left : 0 < length (drop p s)
    some_left = omega (arith, length-drop p s)

    other_inv : None ≡ line_at s p n → is_frame n (first_line (drop p s)) ≡ false
    unfolding line_at
    other_inv e =
        by_test (is_frame n (first_line (drop p s)))
        (λ t. let w = simp t at e in absurd (cc))
        (λ f. f)

    pub reach_other : {d' : List ℕ} → None ≡ line_at s p n → d' ≡ splice d n (given_by n (first_line (drop p s)))
        → (Bad number ≡ frames_of s) × (d' ≡ splice d₀ 0 (file_of s))
    unfolding given_by
    reach_other e w =
        let f = other_inv e in (
          sym (h.answer ∙ answer_other n (drop p s) some_left number f),
          w ∙ simp f (ap (splice d n) (sym (file_other n (drop p s) some_left f)) ∙ h.file),
        )

    read_frame : {q m : ℕ} → UpTo q m ≡ line_at s p n → is_frame n (first_line (drop p s)) ≡ true
    unfolding line_at
    read_frame e =
        by_test (is_frame n (first_line (drop p s)))
        (λ t. t)
        (λ f. let w = simp f at e in absurd (cc))

    next_start : {q m : ℕ} → UpTo q m ≡ line_at s p n → q ≡ p + length (first_line (drop p s))
    unfolding line_at
    next_start e = (same_end (simp (read_frame e) at e)).0

    next_count : {q m : ℕ} → UpTo q m ≡ line_at s p n → m ≡ n + length (data_of (first_line (drop p s)))
    unfolding line_at
    next_count e = (same_end (simp (read_frame e) at e)).1

    pub reach-on : {q m : ℕ} → UpTo q m ≡ line_at s p n → p < q
    reach-on e = omega (arith, next_start e, line-some (drop p s) some_left)

    pub reach_frame : {q m : ℕ} {d' : List ℕ} → UpTo q m ≡ line_at s p n → d' ≡ splice d n (given_by n (first_line (drop p s)))
        → Reached s d₀ d' m q (number + 1)
    unfolding given_by
    reach_frame {q} {m} {d'} e w =
        let f = read_frame e in
        let y = frame_inv n (drop p s) f in
        let l : List ℕ = first_line (drop p s) in
        let v : List ℕ = data_of l in
        let g : d' ≡ splice d n v = simp f at w in
        let k : length v ≡ length (bytes_of (first_line (drop 9 (drop p s)))) = ap length (framed_data y) in
        let a : q ≡ p + length l = next_start e in
        let c : m ≡ n + length v = next_count e in
        let i : length d' ≡ length d = ap length g ∙ splice-length d n v (omega (arith, h.room, y.room)) in
        let t : drop (length l) (drop p s) ≡ drop q s = drop-drop (length l) p s ∙ ap (λ (j : ℕ). drop j s) (sym a) in
        record {
          inside = omega (arith, h.inside, line-fits (drop p s), length-drop p s);
          counted = omega (arith, h.counted, reach-on e);
          fits = omega (arith, y.room);
          room = omega (arith, h.room);
          size = i ∙ h.size;
          answer =
              h.answer
              ∙ answer_frame n (drop p s) some_left number f
              ∙ ap (answer_from (n + length v) (number + 1)) t
              ∙ ap (λ (j : ℕ). answer_from j (number + 1) (drop q s)) (sym c);
          file =
              ap (λ (r : List ℕ). splice r m (file_from m (drop q s))) g
              ∙ ap (λ (j : ℕ). splice (splice d n v) j (file_from j (drop q s))) c
              ∙ sym (splice-append d n v (file_from (n + length v) (drop q s)) (omega (arith, h.room, h.fits)))
              ∙ ap (λ (u : List ℕ). splice d n (v ++ file_from (n + length v) u)) (sym t)
              ∙ ap (splice d n) (sym (file_frame n (drop p s) some_left f))
              ∙ h.file;
        }
