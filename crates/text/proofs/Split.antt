-- A text in two parts: that in the first m characters, and what goes on behind them. Assumes nothing.
use Prim.Native.Nat.{ℕ, zero, suc, ◌+◌, ◌-◌, ◌*◌, ◌≤◌, ◌<◌}
use native.Mathlib.Decide.{ℕ_discrete}
use native.Mathlib.Omega.{arith}
use mathlib.Core.Path.{◌≡◌, refl, ap, sym, ◌∙◌}
use mathlib.Core.List.{List, [], ◌∷◌, ◌++◌}
use lib.ListN.{length}
use Rattle.std.specs.declared.ops.ControlFlow.{ControlFlow}
use Rattle.std.specs.declared.ops.ControlFlow.TheVariants.{Continue, Break}
use Rattle.le.specs.Le.{u16_at}
use Rattle.hash.specs.Hash.{hash_on}
use Rattle.hash.specs.Fold.{fold_text, value_hash_of, value_hash}
use Rattle.hash.proofs.Parts.{hash_laws}
use Rattle.text.specs.Text.{chars, text_in}
use Rattle.text.specs.inner.Measure.{ValueRun}
use Rattle.text.proofs.Laws.{up_stop, up_more, text-none}

-- characters up to a 0, where the first is one and where it is not
opens : (b : List ℕ) (p n : ℕ) → u16_at b p ≡ 0 → text_in b p (suc n) ≡ []
unfolding text_in chars
opens b p n z = up_stop _ _ z

goes : (b : List ℕ) (p n : ℕ) → (u16_at b p ≡ 0 → ⊥) → text_in b p (suc n) ≡ u16_at b p ∷ text_in b (p + 2) n
unfolding text_in chars
goes b p n z = up_more _ _ z

-- a 0 ends it in the first part
pub ends-first : (b : List ℕ) (p m n : ℕ) → m ≤ n → length (text_in b p m) < m → text_in b p n ≡ text_in b p m
ends-first b p zero n l h = absurd (omega arith)
ends-first b p (suc m) zero l h = absurd (omega arith)
ends-first b p (suc m) (suc n) l h = go (λ g. ends-first b (p + 2) m n (omega arith) g) (ℕ_discrete (u16_at b p) 0)
  where
    go : (length (text_in b (p + 2) m) < m → text_in b (p + 2) n ≡ text_in b (p + 2) m) → Dec (u16_at b p ≡ 0) → text_in b p (suc n) ≡ text_in b p (suc m)
    go f (yes z) = opens b p n z ∙ sym (opens b p m z)
    go f (no z) =
        let e : length (text_in b p (suc m)) ≡ suc (length (text_in b (p + 2) m)) = ap length (goes b p m z) in
        goes b p n z ∙ ap (λ (x : List ℕ). u16_at b p ∷ x) (f (omega arith)) ∙ sym (goes b p m z)

-- none does
pub goes_on : (b : List ℕ) (p m n : ℕ) → m ≤ n → length (text_in b p m) ≡ m → text_in b p n ≡ text_in b p m ++ text_in b (p + 2 * m) (n - m)
goes_on b p zero n l h =
    let d : p + 2 * 0 ≡ p = omega arith in
    let e : n - 0 ≡ n = omega arith in
    sym (ap (λ (x : List ℕ). x ++ text_in b (p + 2 * 0) (n - 0)) (text-none b p zero refl) ∙ ap (λ (q : ℕ). text_in b q (n - 0)) d ∙ ap (text_in b p) e)
goes_on b p (suc m) zero l h = absurd (omega arith)
goes_on b p (suc m) (suc n) l h = go (λ g. goes_on b (p + 2) m n (omega arith) g) (ℕ_discrete (u16_at b p) 0)
  where
    go : (length (text_in b (p + 2) m) ≡ m → text_in b (p + 2) n ≡ text_in b (p + 2) m ++ text_in b (p + 2 + 2 * m) (n - m)) → Dec (u16_at b p ≡ 0)
        → text_in b p (suc n) ≡ text_in b p (suc m) ++ text_in b (p + 2 * suc m) (suc n - suc m)
    go r (yes z) = let e : length (text_in b p (suc m)) ≡ 0 = ap length (opens b p m z) in absurd (omega arith)
    go r (no z) =
        let e : length (text_in b p (suc m)) ≡ suc (length (text_in b (p + 2) m)) = ap length (goes b p m z) in
        let d : p + 2 + 2 * m ≡ p + 2 * suc m = omega arith in
        let f : n - m ≡ suc n - suc m = omega arith in
        goes b p n z ∙ ap (λ (x : List ℕ). u16_at b p ∷ x) (r (omega arith))
        ∙ ap (λ (x : List ℕ). x ++ text_in b (p + 2 + 2 * m) (n - m)) (sym (goes b p m z))
        ∙ ap (λ (q : ℕ). text_in b p (suc m) ++ text_in b q (n - m)) d ∙ ap (λ (k : ℕ). text_in b p (suc m) ++ text_in b (p + 2 * suc m) k) f

-- the value hash, in the same two ways
module _ (b : List ℕ) (p m n : ℕ) {r : ControlFlow ℕ ℕ} (l : m ≤ n) (v : ValueRun b p m 0 r) where
  pub value-first : (a : ℕ) → r ≡ Break a → a ≡ value_hash (text_in b p n)
  value-first a q = let w = v.met a q in w.0 ∙ ap value_hash (sym (ends-first b p m n l w.1))

  pub value-second : (g c : ℕ) → r ≡ Continue g → c ≡ value_hash_of (hash_on g (fold_text (text_in b (p + 2 * m) (n - m)))) → c ≡ value_hash (text_in b p n)
  value-second g c q e =
      let w = v.passed g q in
      e ∙ ap (λ (x : ℕ). value_hash_of (hash_on x (fold_text (text_in b (p + 2 * m) (n - m))))) w.0
      ∙ sym (hash_laws.value_in_parts (text_in b p m) (text_in b (p + 2 * m) (n - m)))
      ∙ ap value_hash (sym (goes_on b p m n l w.1))
