-- Laws of refusals 14 and 15. Assumes nothing.
use Prim.Native.Nat.{ℕ, ◌+◌, ◌-◌, ◌*◌, ◌≤◌, ◌<◌}
use native.Mathlib.Omega.{arith}
use mathlib.Core.Path.{◌≡◌, refl, ap, sym, subst, ◌∙◌}
use mathlib.Core.Bool.{Bool}
use mathlib.Core.Logic.{inl, inr, ⊎_elim}
use mathlib.Core.List.{List, [], ◌∷◌}
use Rattle.verdict.specs.Checks.{first_fault, each}
use Rattle.verdict.specs.inner.Tells.{Tells}
use Rattle.verdict.specs.Verdict.{Verdict}
use Rattle.verdict.specs.Verdict.{Accepted, Refused}
use Rattle.std.specs.Prelude.{Ok}
use Rattle.verdict.proofs.Laws.{Clean, pass, stop, fault_none}
use Rattle.verdict.proofs.Gives.{gives_ok}
use Rattle.verdict.proofs.Scans.{each_more, each_stop, each_end, row_same}
use Rattle.le.specs.Le.{u16_at}
use Rattle.text.specs.Text.{text_in, chars}
use Rattle.layout.specs.Header.{keys_at, key_count, key_at}
use Rattle.layout.specs.Table.{Table, list_at, count, listed_segment, listed_element}
use Rattle.layout.specs.Layout.{names}
use Rattle.layout.specs.declared.Edition.{Edition}
use Rattle.strings.specs.Texts.{listed_text}
use Rattle.strings.specs.Order.{string_checks}
use Rattle.strings.proofs.Spots.{Spotted}
use Rattle.keys.specs.Names.{name_count, name_text, root_name, value_name, Bears, Special}
use Rattle.keys.specs.Keys.{key_name, KeyNameRule, KeyRule}
use Rattle.keys.specs.inner.Known.{Known, SpecialsFound}
use Rattle.keys.specs.Order.{special_checks, key_rule_checks, all_key_checks}
use Rattle.keys.specs.declared.Names.{Names}
use Rattle.keys.proofs.Only.{one-position}

-- ---- 14

-- the text at a list position, compared at its spot
pub listed-text : (t : Table) (i p n : ℕ) (x : List ℕ) {r : Bool} → Spotted t (listed_segment t i) (listed_element t i) p n
    → Tells (text_in t.bytes p n ≡ x) r → Tells (listed_text t i ≡ x) r
unfolding listed_text
listed-text t i p n x w f = record { so = λ e. sym w.text ∙ f.so e; not = λ e z. f.not e (w.text ∙ z) }

-- the characters of the two special names, as the code writes them
abbrev root_bytes : List ℕ
root_bytes = 0x5f ∷ 0 ∷ 0x5f ∷ 0 ∷ 0x72 ∷ 0 ∷ 0x6f ∷ 0 ∷ 0x6f ∷ 0 ∷ 0x74 ∷ 0 ∷ 0x5f ∷ 0 ∷ 0x5f ∷ 0 ∷ []

abbrev value_bytes : List ℕ
value_bytes = 0x5f ∷ 0 ∷ 0x5f ∷ 0 ∷ 0x76 ∷ 0 ∷ 0x61 ∷ 0 ∷ 0x6c ∷ 0 ∷ 0x75 ∷ 0 ∷ 0x65 ∷ 0 ∷ 0x5f ∷ 0 ∷ 0x5f ∷ 0 ∷ []

root-chars : chars root_bytes 0 8 ≡ root_name
unfolding chars u16_at root_name
root-chars = refl

value-chars : chars value_bytes 0 9 ≡ value_name
unfolding chars u16_at value_name
value-chars = refl

root-not-value : root_name ≡ value_name → ⊥
unfolding root_name value_name
root-not-value e = let z : ◌≡◌ {A = ℕ} 0x72 0x76 = cc in omega arith

-- the table that the code holds is that of the names
module _ (ed : Edition) (b : List ℕ) (t : Table) (same : t ≡ names ed b) where
  pub name-count : (n : ℕ) → n ≡ count t → n - 1 ≡ name_count ed b
  unfolding name_count
  name-count n e = ap (λ (x : ℕ). x - 1) (e ∙ ap count same)

  named : (i : ℕ) (x y : List ℕ) {r : Bool} → x ≡ y → Tells (listed_text t i ≡ x) r → Tells (name_text ed b i ≡ y) r
  unfolding name_text
  named i x y {r} e f = subst (λ (w : List ℕ). Tells (listed_text (names ed b) i ≡ w) r) e (subst (λ (u : Table). Tells (listed_text u i ≡ x) r) same f)

  pub named_root : (i : ℕ) {r : Bool} → Tells (listed_text t i ≡ chars root_bytes 0 8) r → Tells (name_text ed b i ≡ root_name) r
  named_root i f = named i _ _ root-chars f

  pub named_value : (i : ℕ) {r : Bool} → Tells (listed_text t i ≡ chars value_bytes 0 9) r → Tells (name_text ed b i ≡ value_name) r
  named_value i f = named i _ _ value-chars f

  only_name : Clean (string_checks t) → (i j : ℕ) (x : List ℕ) → Bears ed b i x → Bears ed b j x → i ≡ j
  unfolding name_count name_text
  only_name ok i j x g h =
      one-position (names ed b) (subst (λ (u : Table). Clean (string_checks u)) same ok) i j g.low (omega (arith, g.low, g.high)) h.low
      (omega (arith, h.low, h.high)) (g.text ∙ sym h.text)

  known : Clean (string_checks t) → (m i j : ℕ) → m ≡ name_count ed b → Bears ed b i root_name → Bears ed b j value_name
      → Known ed b (record { count = m; root = i; value = j })
  known ok m i j e g h = record {
    count = e;
    root = g;
    value = h;
    only_root = λ k r. only_name ok k i root_name r g;
    only_value = λ k r. only_name ok k j value_name r h;
  }

  -- the ways out, by what was found at the two highest indices
  module _ (m : ℕ) (e : m ≡ name_count ed b) where
    bears : (i : ℕ) (x : List ℕ) → 1 ≤ i → i ≤ m → name_text ed b i ≡ x → Bears ed b i x
    bears i x l h q = record { low = l; high = omega (arith, e); text = q }

    at_top : {x : List ℕ} → name_text ed b m ≡ x → name_text ed b (name_count ed b) ≡ x
    at_top {x} q = subst (λ (i : ℕ). name_text ed b i ≡ x) e q

    at_next : {x : List ℕ} → name_text ed b (m - 1) ≡ x → name_text ed b (name_count ed b - 1) ≡ x
    at_next {x} q = subst (λ (i : ℕ). name_text ed b (i - 1) ≡ x) e q

    pub root_top : Clean (string_checks t) → 2 ≤ m → name_text ed b m ≡ root_name → name_text ed b (m - 1) ≡ value_name
        → SpecialsFound ed b (Ok (record { count = m; root = m; value = m - 1 }))
    unfolding special_checks
    root_top ok l p q =
        gives_ok
        (pass _ _ _ _ _ (record { two = omega (arith, e); highest = inl (at_top p, at_next q) }) ∙ fault_none)
        (known ok m m (m - 1) e (bears m root_name (omega arith) (omega arith) p) (bears (m - 1) value_name (omega arith) (omega arith) q))

    pub value_top : Clean (string_checks t) → 2 ≤ m → name_text ed b m ≡ value_name → name_text ed b (m - 1) ≡ root_name
        → SpecialsFound ed b (Ok (record { count = m; root = m - 1; value = m }))
    unfolding special_checks
    value_top ok l p q =
        gives_ok
        (pass _ _ _ _ _ (record { two = omega (arith, e); highest = inr (at_top p, at_next q) }) ∙ fault_none)
        (known ok m (m - 1) m e (bears (m - 1) root_name (omega arith) (omega arith) q) (bears m value_name (omega arith) (omega arith) p))

    pub too_few : m < 2 → Special ed b → ⊥
    too_few l r = omega (arith, e, r.two)

    pub root_alone : name_text ed b m ≡ root_name → (name_text ed b (m - 1) ≡ value_name → ⊥) → Special ed b → ⊥
    root_alone p f r = ⊎_elim (λ w. f (ap (λ (i : ℕ). name_text ed b (i - 1)) e ∙ w.1)) (λ w. root-not-value (sym (at_top p) ∙ w.0)) r.highest

    pub value_alone : (name_text ed b m ≡ root_name → ⊥) → (name_text ed b (m - 1) ≡ root_name → ⊥) → Special ed b → ⊥
    value_alone f g r =
        ⊎_elim (λ w. f (ap (name_text ed b) e ∙ w.0)) (λ w. g (ap (λ (i : ℕ). name_text ed b (i - 1)) e ∙ w.1)) r.highest

    pub other_top : (name_text ed b m ≡ root_name → ⊥) → (name_text ed b m ≡ value_name → ⊥) → Special ed b → ⊥
    other_top f g r = ⊎_elim (λ w. f (ap (name_text ed b) e ∙ w.0)) (λ w. g (ap (name_text ed b) e ∙ w.0)) r.highest

  pub not-special : (place : ℕ) → place ≡ list_at t → (Special ed b → ⊥) → first_fault (special_checks ed b) ≡ Refused 14 place
  unfolding special_checks
  not-special place e f = stop _ _ _ _ _ f ∙ sym (ap (Refused 14) (e ∙ ap list_at same))

-- ---- 15: one name of a key

module _ (ed : Edition) (b : List ℕ) (n : Names) (g : Known ed b n) (k f x : ℕ) (q : x ≡ u16_at b (36 + 8 * k + 2 * f)) where
  name_is : x ≡ key_name b k f
  unfolding key_name key_at keys_at
  name_is = q

  pub not-zero : k ≡ 0 → (x ≡ 0 → ⊥) → KeyNameRule ed b k f → ⊥
  not-zero z d r = d (name_is ∙ r.zero-key z)

  pub too_high : n.count < x → KeyNameRule ed b k f → ⊥
  too_high l r = omega (arith, name_is, r.high, g.count)

  pub is_value : x ≡ n.value → KeyNameRule ed b k f → ⊥
  is_value e r = r.not-value (subst (λ (i : ℕ). Bears ed b i value_name) (sym e ∙ name_is) g.value)

  pub name-right : (k ≡ 0 → x ≡ 0) → x ≤ n.count → (x ≡ n.value → ⊥) → KeyNameRule ed b k f
  name-right z l d = record {
    zero-key = λ e. sym name_is ∙ z e;
    high = omega (arith, name_is, g.count);
    not-value = λ r. d (name_is ∙ g.only_value _ r);
  }

-- ---- all keys: what the loop has left, from key k on

unfoldable pub keys_left : Edition → List ℕ → ℕ → Verdict
keys_left ed b k = first_fault (each (key_rule_checks ed b) (key_count b - k) k)

module _ (ed : Edition) (b : List ℕ) where
  pub keys_start : first_fault (all_key_checks ed b) ≡ keys_left ed b 0
  unfolding all_key_checks keys_left
  keys_start = row_same _ _ _ _ (omega arith)

  pub keys_more : (k : ℕ) → k < key_count b → KeyRule ed b k → keys_left ed b k ≡ keys_left ed b (k + 1)
  unfolding keys_left key_rule_checks
  keys_more k h r = each_more (key_rule_checks ed b) _ _ _ (omega arith) (pass _ _ _ _ _ r ∙ fault_none)

  pub keys_stop : (k : ℕ) → k < key_count b → (KeyRule ed b k → ⊥) → keys_left ed b k ≡ Refused 15 (36 + 8 * k)
  unfolding keys_left key_rule_checks key_at keys_at
  keys_stop k h f = each_stop (key_rule_checks ed b) _ _ (omega arith) (stop _ _ _ _ _ f)

  pub keys_none : (k : ℕ) → key_count b ≤ k → keys_left ed b k ≡ Accepted
  unfolding keys_left
  keys_none k h = each_end (key_rule_checks ed b) _ _ (omega arith)
