-- The places of some texts, written one after the other. Assumes nothing.
use mathlib.Core.Path.{◌≡◌, refl, sym, ap, ◌∙◌}
use mathlib.Core.Logic.{⊎_elim}
use mathlib.Core.List.{List, [], ◌∷◌, ◌++◌}
use Prim.Native.Nat.{ℕ, ◌+◌, ◌-◌, ◌*◌, ◌/◌, ◌%◌, ◌≤◌, ◌<◌}
use native.Mathlib.Omega.{arith}
use lib.ListN.{length, length-append}
use Rattle.laws.specs.inner.Lists.{splice}
use Rattle.laws.proofs.Order.{le_or_lt}
use Rattle.laws.proofs.Splice.{splice_nil, splice-length, splice-append}
use Rattle.le.specs.Le.{u16_at, le4}
use Rattle.verdict.proofs.Laws.{Clean}
use Rattle.hash.specs.Hash.{hash_text}
use Rattle.text.specs.Text.{chars, text_in}
use Rattle.text.proofs.Laws.{text-chars, text-live, text_end}
use Rattle.lookup.specs.Kinds.{kind_of, told_number}
use Rattle.lookup.specs.declared.Lookup.{Lookup}
use Rattle.path.specs.Names.{names_of, path_checks}
use Rattle.path.specs.inner.Indices.{NameEnd}
use Rattle.path.proofs.Split.{names_from, names_start, names_end, names_more}
use Rattle.path.proofs.Formed.{formed_inv}
use Rattle.batch.specs.Places.{place, places}
use Rattle.batch.specs.inner.Groups.{TextRead}

pub length-place : (l : Lookup) → length (place l) ≡ 8
unfolding place le4
length-place l = refl

pub length-places : (f : List ℕ → Lookup) (xs : List (List ℕ)) → length (places f xs) ≡ 8 * length xs
unfolding places
length-places f [] = refl
length-places f (x ∷ xs) = let r = length-places f xs in omega (arith, length-append (place (f x)) (places f xs), length-place (f x))

-- ---- one place

-- a place written as two numbers
put_two : (d : List ℕ) (at k n : ℕ) {d₁ d₂ : List ℕ} → at + 8 ≤ length d → d₁ ≡ splice d at (le4 k) → d₂ ≡ splice d₁ (at + 4) (le4 n)
    → d₂ ≡ splice d at (le4 k ++ le4 n)
unfolding le4
put_two d at k n h p q = q ∙ ap (λ (x : List ℕ). splice x (at + 4) (le4 n)) p ∙ sym (splice-append d at (le4 k) (le4 n) (omega arith))

pub put_told : (d : List ℕ) (at : ℕ) (l : Lookup) {k n : ℕ} {d₁ d₂ : List ℕ} → at + 8 ≤ length d → k ≡ kind_of l → n ≡ told_number l → d₁ ≡ splice d at (le4 k)
    → d₂ ≡ splice d₁ (at + 4) (le4 n) → d₂ ≡ splice d at (place l)
unfolding place
put_told d at l {d₁ = d₁} h e f p q =
    put_two d at (kind_of l) (told_number l) h (p ∙ ap (λ (x : ℕ). splice d at (le4 x)) e) (q ∙ ap (λ (x : ℕ). splice d₁ (at + 4) (le4 x)) f)

-- ---- the loop that writes

-- the text at an offset has k characters, a 0 stands behind them, and h is its hash
pub record TextAt (texts : List ℕ) (at k h : ℕ) : Type 0 where
  pub within : at + (2 * k + 2) ≤ length texts
  pub hashed : h ≡ hash_text (chars texts at k)
  pub next : names_from texts at ≡ chars texts at k ∷ names_from texts (at + (2 * k + 2))

-- what measuring it tells
module _ (texts : List ℕ) (at : ℕ) (ok : Clean (path_checks texts)) (even : at % 2 ≡ 0) (l : at < length texts) where
  ended_before : length (text_in texts at ((length texts - at) / 2)) < (length texts - at) / 2
  ended_before =
      let w = formed_inv texts ok in
      let n : ℕ = (length texts - at) / 2 in
      ⊎_elim
      (λ z. absurd (omega arith))
      (λ z. ⊎_elim
      (λ g.
      let e : at + 2 * (n - 1) ≡ length texts - 2 = omega (arith, w.0) in
      absurd (text-live texts at n (n - 1) (omega (arith, w.0)) (ap (u16_at texts) e ∙ z)))
      (λ g. g)
      (le_or_lt n (length (text_in texts at n))))
      w.1

  text_end_at : (k : ℕ) → k ≡ length (text_in texts at ((length texts - at) / 2)) → NameEnd texts at (at + 2 * k)
  text_end_at k e =
      let w = formed_inv texts ok in
      let n : ℕ = (length texts - at) / 2 in
      let g = ended_before in
      record {
        from = omega arith;
        within = omega (arith, w.0);
        even = omega arith;
        zero_there = ap (λ (m : ℕ). u16_at texts (at + 2 * m)) e ∙ text_end texts at n g;
        live = λ i h z. text-live texts at n i (omega arith) z;
      }

  pub text_measured : {k h : ℕ} → TextRead texts at k h → TextAt texts at k h
  text_measured {k} {h} m =
      let w = formed_inv texts ok in
      let n : ℕ = (length texts - at) / 2 in
      let e = text_end_at k m.long in
      let d : (at + 2 * k - at) / 2 ≡ k = omega arith in
      let f : at + 2 * k + 2 ≡ at + (2 * k + 2) = omega arith in
      record {
        within = omega (arith, e.within);
        hashed = m.hashed ∙ ap hash_text (text-chars texts at n ∙ ap (chars texts at) (sym m.long));
        next = names_more texts at (at + 2 * k) w.0 even e
            ∙ ap (λ (i : ℕ). chars texts at i ∷ names_from texts (at + 2 * k + 2)) d
            ∙ ap (λ (i : ℕ). chars texts at k ∷ names_from texts i) f;
      }

-- with the places of the texts from offset `at` on put at i, the answers d' are d with all places put at 0
pub record Writing (f : List ℕ → Lookup) (texts d : List ℕ) (i at : ℕ) (d' : List ℕ) : Type 0 where
  pub even : at % 2 ≡ 0
  pub long : length d' ≡ length d
  pub room : i + 8 * length (names_from texts at) ≤ length d
  pub whole : splice d' i (places f (names_from texts at)) ≡ splice d 0 (places f (names_of texts))

module _ (f : List ℕ → Lookup) (texts : List ℕ) where
  pub writing_start : (d : List ℕ) → 8 * length (names_of texts) ≤ length d → Writing f texts d 0 0 d
  writing_start d h = record {
    even = refl;
    long = refl;
    room = omega (arith, ap length (names_start texts));
    whole = ap (λ (xs : List (List ℕ)). splice d 0 (places f xs)) (names_start texts);
  }

  module _ {d d' : List ℕ} {i at : ℕ} (w : Writing f texts d i at d') where
    module _ {k h : ℕ} (t : TextAt texts at k h) where
      -- there is a place for the next text
      pub place-room : i + 8 ≤ length d'
      place-room = omega (arith, w.room, w.long, ap length t.next)

      pub writing_more : {l : Lookup} {d'' : List ℕ} → l ≡ f (chars texts at k) → d'' ≡ splice d' i (place l) → Writing f texts d (i + 8) (at + (2 * k + 2)) d''
      unfolding places
      writing_more {l} p q =
          let x : List ℕ = chars texts at k in
          let xs : List (List ℕ) = names_from texts (at + (2 * k + 2)) in
          let g : length (place (f x)) ≡ 8 = length-place (f x) in
          let s = q ∙ ap (λ (y : Lookup). splice d' i (place y)) p in
          record {
            even = omega (arith, w.even);
            long = ap length s ∙ splice-length d' i (place (f x)) (omega (arith, place-room)) ∙ w.long;
            room = omega (arith, w.room, ap length t.next);
            whole =
                ap (λ (y : List ℕ). splice y (i + 8) (places f xs)) s
                ∙ ap (λ (n : ℕ). splice (splice d' i (place (f x))) (i + n) (places f xs)) (sym g)
                ∙ sym (splice-append d' i (place (f x)) (places f xs) (omega (arith, place-room)))
                ∙ ap (λ (y : List (List ℕ)). splice d' i (places f y)) (sym t.next)
                ∙ w.whole;
          }

    pub writing_all : length texts ≤ at → d' ≡ splice d 0 (places f (names_of texts))
    unfolding places
    writing_all h = sym (splice_nil d' i) ∙ ap (λ (xs : List (List ℕ)). splice d' i (places f xs)) (sym (names_end texts at h)) ∙ w.whole
