-- What the loops hold: the whole is what is left from here. Assumes nothing.
use Prim.Native.Nat.{ℕ, ◌+◌, ◌-◌, ◌*◌, ◌≤◌, ◌<◌}
use native.Mathlib.Omega.{arith}
use mathlib.Core.Path.{◌≡◌, refl, ap, sym, ◌∙◌}
use mathlib.Core.Logic.{◌↔◌, ⊎_elim, by_cases}
use mathlib.Core.List.{List, [], ◌∷◌}
use native.Mathlib.Decide.{ℕ_discrete}
use lib.Dec.{eqb}
use lib.ListN.{get_or}
use Rattle.laws.proofs.Order.{le_or_lt}
use Rattle.verdict.specs.inner.Tells.{Tells}
use Rattle.verdict.proofs.Laws.{tells_eqb}
use Rattle.le.specs.Le.{u16_at}
use Rattle.hash.specs.Hash.{hash_char, hash_on}
use Rattle.text.specs.Text.{chars, up_to_zero, text_in}
use Rattle.text.specs.inner.Measure.{CharOrEnd}
use Rattle.text.proofs.Laws.{chars-none, chars_more, up_stop, up_more}

-- what is left of n characters after i, and of the text in them
unfoldable pub chars_from : List ℕ → ℕ → ℕ → ℕ → List ℕ
chars_from b p n i = chars b (p + 2 * i) (n - i)

unfoldable pub text_from : List ℕ → ℕ → ℕ → ℕ → List ℕ
text_from b p n i = up_to_zero (chars_from b p n i)

module _ (b : List ℕ) (p n : ℕ) where
  pub chars_start : chars_from b p n 0 ≡ chars b p n
  unfolding chars_from
  chars_start =
      let e : p + 2 * 0 ≡ p = omega arith in
      let d : n - 0 ≡ n = omega arith in
      ap (λ (q : ℕ). chars b q (n - 0)) e ∙ ap (chars b p) d

  pub chars_over : (i : ℕ) → n ≤ i → chars_from b p n i ≡ []
  unfolding chars_from
  chars_over i h = chars-none b (p + 2 * i) (n - i) (omega arith)

  pub chars_next : (i c : ℕ) → i < n → c ≡ u16_at b (p + 2 * i) → chars_from b p n i ≡ c ∷ chars_from b p n (i + 1)
  unfolding chars_from
  chars_next i c h q =
      let e : p + 2 * i + 2 ≡ p + 2 * (i + 1) = omega arith in
      chars_more b (p + 2 * i) (n - i) (n - (i + 1)) (omega arith)
      ∙ ap (λ (a : ℕ). u16_at b (p + 2 * i) ∷ chars b a (n - (i + 1))) e
      ∙ ap (λ (x : ℕ). x ∷ chars b (p + 2 * (i + 1)) (n - (i + 1))) (sym q)

  -- it is what stands at the next offset
  pub chars_rest : (i : ℕ) → chars b (p + 2 * i) (n - i) ≡ chars_from b p n i
  unfolding chars_from
  chars_rest i = refl

  pub text-rest : (i : ℕ) → text_in b (p + 2 * i) (n - i) ≡ text_from b p n i
  unfolding text_in text_from chars_from
  text-rest i = refl

  pub text-start : text_from b p n 0 ≡ text_in b p n
  unfolding text_from text_in
  text-start = ap up_to_zero chars_start

  pub text_over : (i : ℕ) → n ≤ i → text_from b p n i ≡ []
  unfolding text_from up_to_zero
  text_over i h = ap up_to_zero (chars_over i h)

  pub text_shut : (i c : ℕ) → i < n → c ≡ u16_at b (p + 2 * i) → c ≡ 0 → text_from b p n i ≡ []
  unfolding text_from
  text_shut i c h q z = ap up_to_zero (chars_next i c h q) ∙ up_stop _ _ z

  pub text_next : (i c : ℕ) → i < n → c ≡ u16_at b (p + 2 * i) → (c ≡ 0 → ⊥) → text_from b p n i ≡ c ∷ text_from b p n (i + 1)
  unfolding text_from
  text_next i c h q z = ap up_to_zero (chars_next i c h q) ∙ up_more _ _ z

-- ---- hashing on

pub hash_end : (xs : List ℕ) (h : ℕ) → xs ≡ [] → hash_on h xs ≡ h
unfolding hash_on
hash_end xs h e = ap (hash_on h) e

pub hash_next : (xs ys : List ℕ) (h c g : ℕ) → xs ≡ c ∷ ys → g ≡ hash_char h c → hash_on h xs ≡ hash_on g ys
unfolding hash_on
hash_next xs ys h c g e q = ap (hash_on h) e ∙ ap (λ (x : ℕ). hash_on x ys) (sym q)

-- what is left is hashed from there on
pub hash-rest : (b : List ℕ) (p n i s h r : ℕ) → hash_on s (chars b p n) ≡ hash_on h (chars_from b p n i) → r ≡ hash_on h (chars b (p + 2 * i) (n - i))
    → r ≡ hash_on s (chars b p n)
hash-rest b p n i s h r k e = e ∙ ap (hash_on h) (chars_rest b p n i) ∙ sym k

-- ---- characters or the end

-- a character that is there is that character
pub char_here : (b : List ℕ) (p n i c : ℕ) → i < n → (c ≡ u16_at b (p + 2 * i)) × (c < 65536) → CharOrEnd b p n i c
char_here b p n i c l e = record { within = λ m. e.0; past = λ m. absurd (omega arith); small = e.1 }

module _ (b : List ℕ) (p n i c : ℕ) (k : CharOrEnd b p n i c) where
  -- at a 0 no text is left
  pub char_end : c ≡ 0 → text_from b p n i ≡ []
  char_end z = ⊎_elim (λ l. text_over b p n i l) (λ l. text_shut b p n i c l (k.within l) z) (le_or_lt n i)

  pub char_in : (c ≡ 0 → ⊥) → i < n
  char_in z = ⊎_elim (λ l. absurd (z (k.past l))) (λ l. l) (le_or_lt n i)

  -- any other character is the next of the text
  pub char_next : (c ≡ 0 → ⊥) → text_from b p n i ≡ c ∷ text_from b p n (i + 1)
  char_next z = text_next b p n i c (char_in z) (k.within (char_in z)) z

  -- it begins what the text left is
  pub char_head : (us : List ℕ) → text_from b p n i ≡ us → get_or us 0 0 ≡ c
  char_head us e =
      by_cases (ℕ_discrete c 0)
      (λ z. ap (λ (t : List ℕ). get_or t 0 0) (sym e ∙ char_end z) ∙ sym z)
      (λ z. ap (λ (t : List ℕ). get_or t 0 0) (sym e ∙ char_next z))

-- ---- the loops that compare: two lists are the same just where what is left of them is

pub same_start : {xs ys us vs : List ℕ} → xs ≡ ys → us ≡ vs → (ys ≡ vs) ↔ (xs ≡ us)
same_start e f = (λ g. cc, λ g. cc)

pub same_next : {P : Type 0} {xs ys us vs : List ℕ} {c d : ℕ} → P ↔ (xs ≡ us) → xs ≡ c ∷ ys → us ≡ d ∷ vs → c ≡ d → P ↔ (ys ≡ vs)
same_next s e f q = (λ h. let g = s.0 h in cc, λ g. s.1 (cc))

pub none-some : {xs us vs : List ℕ} {d : ℕ} → xs ≡ [] → us ≡ d ∷ vs → xs ≡ us → ⊥
none-some e f g = let z : ◌≡◌ {A = ℕ} 0 1 = cc in omega arith

-- the text at p ends behind m characters: that at q tells
pub same_end : (b : List ℕ) (p m q n i c : ℕ) → i ≡ m → (text_in b p m ≡ text_in b q n) ↔ (text_from b p m i ≡ text_from b q n i)
    → CharOrEnd b q n m c → Tells (text_in b p m ≡ text_in b q n) (eqb c 0)
same_end b p m q n i c e w g =
    let v : (text_in b p m ≡ text_in b q n) ↔ (text_from b p m m ≡ text_from b q n m) = rw e at w in
    let t = text_over b p m m (omega arith) in
    tells_eqb c 0 (λ z. v.1 (t ∙ sym (char_end b q n m c g z))) (λ h. sym (char_head b q n m c g [] (sym (v.0 h) ∙ t)))

-- all k characters are borne: what is left tells
pub borne_end : (b s : List ℕ) (p n q k i c : ℕ) → i ≡ k → (text_in b p n ≡ chars s q k) ↔ (text_from b p n i ≡ chars_from s q k i)
    → CharOrEnd b p n k c → Tells (text_in b p n ≡ chars s q k) (eqb c 0)
borne_end b s p n q k i c e w g =
    let v : (text_in b p n ≡ chars s q k) ↔ (text_from b p n k ≡ chars_from s q k k) = rw e at w in
    let t = chars_over s q k k (omega arith) in
    tells_eqb c 0 (λ z. v.1 (char_end b p n k c g z ∙ sym t)) (λ h. sym (char_head b p n k c g [] (v.0 h ∙ t)))
