-- A list of numbers below n, none of them twice, has at most n of them; where it has n, each number below n is in it.
-- Assumes nothing.
use Prim.Native.Nat.{ℕ, zero, suc, ◌≤◌, ◌<◌, zero-le, suc-le-suc}
use native.Mathlib.Nat.{not-suc-le-zero, le_of_suc-le-suc, le_trans, le_refl}
use native.Mathlib.Numerals.{lt_of_le_of_ne}
use native.Mathlib.Decide.{ℕ_discrete}
use native.Mathlib.Omega.{arith}
use mathlib.Core.Path.{◌≡◌, refl, sym, subst, ◌∙◌}
use mathlib.Core.Logic.{⊎_elim}
use mathlib.Core.List.Memᴰ
use mathlib.Core.List.{List, [], ◌∷◌, ◌++◌, Memᴰ}
use lib.ListN.{length}

-- none of them twice
unfoldable pub Once : List ℕ → Type 0
Once [] = Unit
Once (x ∷ l) = (Memᴰ x l → ⊥) × Once l

pub once-none : Once []
unfolding Once
once-none = tt

pub once_more : (x : ℕ) (l : List ℕ) → (Memᴰ x l → ⊥) → Once l → Once (x ∷ l)
unfolding Once
once_more x l f p = (f, p)

pub once-append : (k l : List ℕ) → Once k → Once l → ((e : ℕ) → Memᴰ e k → Memᴰ e l → ⊥) → Once (k ++ l)
unfolding Once
once-append [] l p q f = q
once-append (x ∷ k) l p q f = (
  λ h. ⊎_elim p.0 (f x (Memᴰ.head refl)) (Memᴰ.append_cases k h),
  once-append k l p.1 q (λ e h. f e (Memᴰ.tail h)),
)

-- what is left of a list without one number
record Removed (v : ℕ) (l : List ℕ) : Type 0 where
  rest : List ℕ
  long : length l ≤ suc (length rest)
  once : Once rest
  sub : (e : ℕ) → Memᴰ e rest → Memᴰ e l
  none : (e : ℕ) → Memᴰ e rest → e ≡ v → ⊥

remove : (v : ℕ) (l : List ℕ) → Once l → Removed v l
unfolding Once
remove v [] p = record { rest = []; long = zero-le; once = tt; sub = λ e h. h; none = λ e h q. absurd (Memᴰ.not-nil h) }
remove v (x ∷ l) p = go (ℕ_discrete x v) (remove v l p.1)
  where
    go : Dec (x ≡ v) → Removed v l → Removed v (x ∷ l)
    go (yes q) r = record {
      rest = l;
      long = le_refl (suc (length l));
      once = p.1;
      sub = λ e h. Memᴰ.tail h;
      none = λ e h w. p.0 (Memᴰ.cast (q ∙ sym w) h);
    }
    go (no f) r = record {
      rest = x ∷ r.rest;
      long = suc-le-suc r.long;
      once = (λ h. p.0 (r.sub x h), r.once);
      sub = λ e h. ⊎_elim (λ w. Memᴰ.head w) (λ w. Memᴰ.tail (r.sub e w)) (Memᴰ.cases_cons h);
      none = λ e h w. ⊎_elim (λ y. f (sym y ∙ w)) (λ y. r.none e y w) (Memᴰ.cases_cons h);
    }

pub pigeon : (n : ℕ) (l : List ℕ) → Once l → ((e : ℕ) → Memᴰ e l → e < n) → length l ≤ n
pigeon zero [] p f = zero-le
pigeon zero (x ∷ l) p f = absurd (not-suc-le-zero (f x (Memᴰ.head refl)))
pigeon (suc n) l p f =
    let r = remove n l p in
    le_trans r.long (suc-le-suc (pigeon n r.rest r.once (λ e h. lt_of_le_of_ne (le_of_suc-le-suc (f e (r.sub e h))) (r.none e h))))

member? : (e : ℕ) (l : List ℕ) → Dec (Memᴰ e l)
member? e [] = no Memᴰ.not-nil
member? e (x ∷ l) = go (ℕ_discrete e x) (member? e l)
  where
    go : Dec (e ≡ x) → Dec (Memᴰ e l) → Dec (Memᴰ e (x ∷ l))
    go (yes q) d = yes (Memᴰ.head q)
    go (no f) (yes h) = yes (Memᴰ.tail h)
    go (no f) (no g) = no (λ h. ⊎_elim f g (Memᴰ.cases_cons h))

-- all are there
pub pigeon_all : (n : ℕ) (l : List ℕ) → Once l → ((e : ℕ) → Memᴰ e l → e < n) → n ≤ length l → (i : ℕ) → i < n → Memᴰ i l
pigeon_all n l p f h i c = go (member? i l)
  where
    below : (e : ℕ) → Memᴰ e (i ∷ l) → e < n
    below e m = ⊎_elim (λ q. subst (λ (x : ℕ). x < n) (sym q) c) (f e) (Memᴰ.cases_cons m)

    go : Dec (Memᴰ i l) → Memᴰ i l
    go (yes m) = m
    go (no g) = absurd (omega (arith, pigeon n (i ∷ l) (once_more i l g p) below))
