-- The names of a path, one after the other as the code finds their ends. Assumes nothing.
use mathlib.Core.Path.{◌≡◌, refl, sym, ap, ◌∙◌}
use mathlib.Core.Bool.{Bool, cond}
use mathlib.Core.Logic.{⊎_elim, by_cases}
use mathlib.Core.List.{List, [], ◌∷◌}
use Prim.Native.Nat.{ℕ, zero, suc, ◌+◌, ◌-◌, ◌*◌, ◌/◌, ◌%◌, ◌≤◌, ◌<◌}
use native.Mathlib.Nat.{not-suc-le-zero}
use native.Mathlib.Decide.{ℕ_discrete}
use native.Mathlib.Omega.{arith}
use borrow.Author.Tests.{eq-eqb, ne_eqb}
use lib.ListN.{length}
use Rattle.verdict.proofs.Laws.{Clean}
use Rattle.le.specs.Le.{u16_at}
use Rattle.text.specs.Text.{chars}
use Rattle.text.proofs.Laws.{chars-none, chars_more}
use Rattle.lookup.specs.Lookup.{text_from}
use Rattle.path.specs.Names.{add_char, split, names_of, path_checks}
use Rattle.path.specs.inner.Indices.{NameEnd}
use Rattle.path.proofs.Formed.{formed_inv}

pub length_add : (c : ℕ) (xs : List (List ℕ)) → length (add_char c xs) ≡ length xs
unfolding add_char
length_add c [] = refl
length_add c (x ∷ xs) = refl

-- characters whose first 0 is at place k are a name and what is behind it, from offset q on, m characters
split-chars : (b : List ℕ) (k p n q m : ℕ) → ((i : ℕ) → i < k → u16_at b (p + 2 * i) ≡ 0 → ⊥) → u16_at b (p + 2 * k) ≡ 0
    → q ≡ p + 2 * k + 2 → n ≡ k + 1 + m → split (chars b p n) ≡ chars b p k ∷ split (chars b q m)
unfolding split chars add_char
split-chars b zero p n q m f z e d =
    let h : p + 2 * 0 ≡ p = omega arith in
    ap split (chars_more b p n m (omega arith))
    ∙ ap (λ (c : Bool). cond c ([] ∷ split (chars b (p + 2) m)) (add_char (u16_at b p) (split (chars b (p + 2) m)))) (eq-eqb (u16_at b p) 0 (ap (u16_at b) (sym h) ∙ z))
    ∙ (let g : p + 2 ≡ q = omega arith in rw g)
split-chars b (suc k) p n q m f z e d =
    let h : p + 2 * 0 ≡ p = omega arith in
    let r = split-chars b k (p + 2) (k + 1 + m) q m
    (λ i g w. let s : p + 2 + 2 * i ≡ p + 2 * suc i = omega arith in f (suc i) (omega arith) (ap (u16_at b) (sym s) ∙ w))
    (let s : p + 2 + 2 * k ≡ p + 2 * suc k = omega arith in ap (u16_at b) s ∙ z)
    (omega arith) refl in
    ap split (chars_more b p n (k + 1 + m) (omega arith))
    ∙ ap (λ (c : Bool). cond c ([] ∷ split (chars b (p + 2) (k + 1 + m))) (add_char (u16_at b p) (split (chars b (p + 2) (k + 1 + m)))))
    (ne_eqb (u16_at b p) 0 (λ w. f 0 (omega arith) (ap (u16_at b) h ∙ w)))
    ∙ ap (add_char (u16_at b p)) r

-- where one of them is 0 there is a name
split-some : (b : List ℕ) (k p n : ℕ) → u16_at b (p + 2 * k) ≡ 0 → k < n → 0 < length (split (chars b p n))
unfolding split chars
split-some b k p zero z h = absurd (not-suc-le-zero h)
split-some b zero p (suc n) z h =
    let e : p + 2 * 0 ≡ p = omega arith in
    rw (eq-eqb (u16_at b p) 0 (ap (u16_at b) (sym e) ∙ z)) (omega arith)
split-some b (suc k) p (suc n) z h =
    let e : p + 2 + 2 * k ≡ p + 2 * suc k = omega arith in
    by_cases (ℕ_discrete (u16_at b p) 0)
    (λ q. rw (eq-eqb (u16_at b p) 0 q) (omega arith))
    (λ f. rw (ne_eqb (u16_at b p) 0 f) (omega (arith, length_add (u16_at b p) (split (chars b (p + 2) n)), split-some b k (p + 2) n (ap (u16_at b) e ∙ z) (omega arith))))

-- the names from an offset on
unfoldable pub names_from : List ℕ → ℕ → List (List ℕ)
names_from path at = split (chars path at ((length path - at) / 2))

module _ (path : List ℕ) where
  pub names_start : names_from path 0 ≡ names_of path
  unfolding names_from names_of text_from
  names_start = let e : length path - 0 ≡ length path = omega arith in rw e

  pub names_end : (at : ℕ) → length path ≤ at → names_from path at ≡ []
  unfolding names_from split
  names_end at h = ap split (chars-none path at _ (omega arith))

  -- a name, and the names behind its 0
  pub names_more : (at e : ℕ) → length path % 2 ≡ 0 → at % 2 ≡ 0 → NameEnd path at e
      → names_from path at ≡ chars path at ((e - at) / 2) ∷ names_from path (e + 2)
  unfolding names_from
  names_more at e w v h =
      let f = h.from in
      let g = h.within in
      let d = h.even in
      let s : at + 2 * ((e - at) / 2) ≡ e = omega arith in
      split-chars path ((e - at) / 2) at _ (e + 2) _ (λ i l. h.live i (omega arith)) (ap (u16_at path) s ∙ h.zero_there) (omega arith) (omega arith)

  -- there is a name where a character is left, for the last one is 0
  pub names-some : (at : ℕ) → Clean (path_checks path) → at % 2 ≡ 0 → at < length path → 0 < length (names_from path at)
  unfolding names_from
  names-some at ok even h =
      let w = formed_inv path ok in
      ⊎_elim
      (λ z. absurd (omega arith))
      (λ z.
      let s : at + 2 * ((length path - at) / 2 - 1) ≡ length path - 2 = omega (arith, w.0) in
      split-some path _ at _ (ap (u16_at path) s ∙ z) (omega (arith, w.0)))
      w.1
