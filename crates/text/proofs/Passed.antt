-- What the loops that hash hold: h is the hash, on from s, of the i characters passed. Assumes nothing.
use Prim.Native.Nat.{ℕ, suc, ◌+◌, ◌-◌, ◌*◌, ◌^◌, ◌≤◌, ◌<◌}
use native.Mathlib.Omega.{arith}
use mathlib.Core.Path.{◌≡◌, ap, sym, ◌∙◌}
use mathlib.Core.List.{List, [], ◌∷◌}
use lib.ListN.{length}
use Rattle.std.specs.declared.ops.ControlFlow.{ControlFlow}
use Rattle.std.specs.declared.ops.ControlFlow.TheVariants.{Continue, Break}
use Rattle.hash.specs.Hash.{hash_char, hash_on}
use Rattle.hash.specs.Fold.{folded, fold_text, value_hash_of}
use Rattle.text.specs.declared.Extent.{Extent}
use Rattle.text.specs.Text.{text_in}
use Rattle.text.specs.inner.Measure.{MeasuredOn, ValueRun}
use Rattle.text.proofs.Walk.{text_from, text-start, text-rest, text_over, hash_end, hash_next}

pub fold_end : (xs : List ℕ) → xs ≡ [] → fold_text xs ≡ []
unfolding fold_text
fold_end xs e = ap fold_text e

pub fold_next : (xs ys : List ℕ) (c d : ℕ) → xs ≡ c ∷ ys → d ≡ folded c → fold_text xs ≡ d ∷ fold_text ys
unfolding fold_text
fold_next xs ys c d e q = ap fold_text e ∙ ap (λ (x : ℕ). x ∷ fold_text ys) (sym q)

-- the characters as they are, or what f makes of them
pub record PassedBy (f : List ℕ → List ℕ) (b : List ℕ) (p n s i h : ℕ) : Type 0 where
  pub inside : i ≤ n
  pub small : h < 2 ^ 32
  pub long : length (text_in b p n) ≡ i + length (text_from b p n i)
  pub hashed : hash_on s (f (text_in b p n)) ≡ hash_on h (f (text_from b p n i))

abbrev pub Passed : List ℕ → ℕ → ℕ → ℕ → ℕ → ℕ → Type 0
Passed = PassedBy (λ t. t)

abbrev pub PassedFolded : List ℕ → ℕ → ℕ → ℕ → ℕ → ℕ → Type 0
PassedFolded = PassedBy fold_text

module _ (b : List ℕ) (p n s : ℕ) where
  start_by : (f : List ℕ → List ℕ) → s < 2 ^ 32 → PassedBy f b p n s 0 s
  start_by f l = record {
    inside = omega arith;
    small = l;
    long = let e : length (text_from b p n 0) ≡ length (text_in b p n) = ap length (text-start b p n) in omega arith;
    hashed = ap (λ (t : List ℕ). hash_on s (f t)) (sym (text-start b p n));
  }

  next_by : (f : List ℕ → List ℕ) (i j h c d g : ℕ) → PassedBy f b p n s i h → j ≡ i + 1 → i < n → text_from b p n i ≡ c ∷ text_from b p n j
      → f (text_from b p n i) ≡ d ∷ f (text_from b p n j) → (g ≡ hash_char h d) × (g < 2 ^ 32) → PassedBy f b p n s j g
  next_by f i j h c d g k a l t u e =
      let m : length (text_from b p n i) ≡ suc (length (text_from b p n j)) = ap length t in record {
        inside = omega arith;
        small = e.1;
        long = omega (arith, k.long);
        hashed = k.hashed ∙ hash_next _ _ _ _ _ u e.0;
      }

  pub passed_start : s < 2 ^ 32 → Passed b p n s 0 s
  passed_start l = start_by (λ t. t) l

  pub passed_next : (i j h c g : ℕ) → Passed b p n s i h → j ≡ i + 1 → i < n → text_from b p n i ≡ c ∷ text_from b p n j → (g ≡ hash_char h c) × (g < 2 ^ 32)
      → Passed b p n s j g
  passed_next i j h c g k d l t e = next_by (λ t. t) i j h c c g k d l t t e

  pub folded_start : s < 2 ^ 32 → PassedFolded b p n s 0 s
  folded_start l = start_by fold_text l

  pub folded_next : (i j h c d g : ℕ) → PassedFolded b p n s i h → j ≡ i + 1 → i < n → text_from b p n i ≡ c ∷ text_from b p n j → d ≡ folded c
      → (g ≡ hash_char h d) × (g < 2 ^ 32) → PassedFolded b p n s j g
  folded_next i j h c d g k a l t f e = next_by fold_text i j h c d g k a l t (fold_next _ _ _ _ t f) e

  -- no text is left: it is measured
  pub measured : (i h : ℕ) (r : Extent) → Passed b p n s i h → text_from b p n i ≡ [] → (r.length ≡ i) × (r.hash ≡ h)
      → MeasuredOn b p n s r
  measured i h r k t e =
      let m : length (text_from b p n i) ≡ 0 = ap length t in record {
        long = omega arith;
        hashed = e.1 ∙ sym (k.hashed ∙ hash_end _ _ t);
      }

  value_end : (i h : ℕ) → PassedFolded b p n s i h → text_from b p n i ≡ [] → (h ≡ hash_on s (fold_text (text_in b p n))) × (length (text_in b p n) ≡ i)
  value_end i h k t = let m : length (text_from b p n i) ≡ 0 = ap length t in (sym (k.hashed ∙ hash_end _ _ (fold_end _ t)), omega (arith, k.long))

  -- no text is left, before the end of the characters or there
  pub value-met : (i h r : ℕ) → PassedFolded b p n s i h → text_from b p n i ≡ [] → i < n → r ≡ value_hash_of h → ValueRun b p n s (Break r)
  value-met i h r k t l e = let w = value_end i h k t in record {
    met = λ v q. let d : v ≡ r = cc in (d ∙ e ∙ ap value_hash_of w.0, omega (arith, w.1));
    passed = λ g q. let z : ⊥ = cc in absurd z;
    small = λ g q. let z : ⊥ = cc in absurd z;
  }

  pub value-passed : (i h : ℕ) → PassedFolded b p n s i h → n ≤ i → ValueRun b p n s (Continue h)
  value-passed i h k l = let w = value_end i h k (text_over b p n i l) in record {
    met = λ v q. let z : ⊥ = cc in absurd z;
    passed = λ g q. let d : g ≡ h = cc in (d ∙ w.0, omega (arith, w.1, k.inside));
    small = λ g q. let d : g ≡ h = cc in omega (arith, k.small);
  }

  -- what is left is measured from there on
  pub measured_rest : (i h : ℕ) (r q : Extent) → Passed b p n s i h → MeasuredOn b (p + 2 * i) (n - i) h r
      → (q.length ≡ i + r.length) × (q.hash ≡ r.hash) → MeasuredOn b p n s q
  measured_rest i h r q k m e =
      let x : length (text_in b (p + 2 * i) (n - i)) ≡ length (text_from b p n i) = ap length (text-rest b p n i) in
      let u = k.inside in
      record {
        long = omega (arith, e.0, k.long, m.long);
        hashed = e.1 ∙ m.hashed ∙ ap (hash_on h) (text-rest b p n i) ∙ sym k.hashed;
      }

  pub value-rest : (i h : ℕ) (r : ControlFlow ℕ ℕ) → PassedFolded b p n s i h → ValueRun b (p + 2 * i) (n - i) h r → ValueRun b p n s r
  value-rest i h r k v =
      let x : length (text_in b (p + 2 * i) (n - i)) ≡ length (text_from b p n i) = ap length (text-rest b p n i) in
      let y : hash_on h (fold_text (text_in b (p + 2 * i) (n - i))) ≡ hash_on s (fold_text (text_in b p n)) = ap (λ (t : List ℕ). hash_on h (fold_text t)) (text-rest b p n i) ∙ sym k.hashed in
      let u = k.inside in
      record {
        met = λ e q. let w = v.met e q in (w.0 ∙ ap value_hash_of y, omega (arith, w.1, k.long));
        passed = λ g q. let w = v.passed g q in (w.0 ∙ y, omega (arith, w.1, k.long));
        small = v.small;
      }
