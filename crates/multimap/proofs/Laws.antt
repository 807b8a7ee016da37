-- How places are sought and filled. Assumes nothing.
use Prim.Native.Nat.{ℕ, ◌+◌, ◌-◌, ◌%◌, ◌≤◌, ◌<◌}
use native.Mathlib.Decide.{ℕ_discrete}
use native.Mathlib.Omega.{arith}
use mathlib.Core.Path.{◌≡◌, ap, sym, subst, ◌∙◌}
use mathlib.Core.Logic.{⊎_elim}
use mathlib.Core.List.{List}
use lib.ListN.{length, get_or, set, replicate, length-set, length-replicate}
use lib.Seq.{get_or-set_same, get_or-set_other}
use Rattle.laws.proofs.Order.{le_or_lt}
use Rattle.laws.proofs.Zeros.{zeros}
use Rattle.std.specs.Prelude.{None, Some}
use Rattle.multimap.specs.inner.Multimap.{number_at, OnSlot, Filled, LastWith, PutBehind}

at_same : (map : List ℕ) (i j : ℕ) → i ≡ j → get_or map i 0 ≡ get_or map j 0
at_same map i j e = ap (λ (k : ℕ). get_or map k 0) e

-- ---- seeking

-- none of the first m places from `at` on has x, and `at` is on its slot
pub record Sought (map : List ℕ) (m x at : ℕ) : Type 0 where
  pub within : at ≤ m
  pub after : (i : ℕ) → at ≤ i → i < m → number_at map i ≡ x → ⊥
  pub slot : (i : ℕ) → i + 1 ≡ at → number_at map i % 4096 ≡ x % 4096

module _ (map : List ℕ) (m x : ℕ) where
  pub sought_start : (c : ℕ) → OnSlot map (x % 4096) m c → Sought map m x c
  sought_start c w = record { within = w.within; after = λ i l h e. w.after i l h (ap (λ (y : ℕ). y % 4096) e); slot = w.slot }

  pub sought_none : (at : ℕ) → Sought map m x at → at ≤ 0 → LastWith map m x None
  sought_none at w z = record { some = λ i q. let v : ⊥ = cc in absurd v; none = λ q i h. w.after i (omega arith) h }

  pub sought_here : (at : ℕ) → Sought map m x at → 0 < at → get_or map (4096 + (at - 1)) 0 ≡ x → LastWith map m x (Some (at - 1))
  unfolding number_at
  sought_here at w l e = record {
    some = λ i q.
        let d : i ≡ at - 1 = cc in
        rw d (record { within = omega (arith, w.within); number = e; after = λ k g h. w.after k (omega arith) h });
    none = λ q. let v : ⊥ = cc in absurd v;
  }

  -- the place before it on the slot
  module _ {n : ℕ} (f : Filled n map) (k : m ≤ n) (at : ℕ) (w : Sought map m x at) (l : 0 < at) where
    linked : OnSlot map (number_at map (at - 1) % 4096) (at - 1) (get_or map (12288 + (at - 1)) 0)
    linked = f.link (at - 1) (omega (arith, w.within))

    pub linked_less : (c : ℕ) → c ≡ get_or map (12288 + (at - 1)) 0 → c < at
    linked_less c e = omega (arith, linked.within)

    pub sought_next : (c : ℕ) → c ≡ get_or map (12288 + (at - 1)) 0 → (get_or map (4096 + (at - 1)) 0 ≡ x → ⊥) → Sought map m x c
    unfolding number_at
    sought_next c e d =
        let s : number_at map (at - 1) % 4096 ≡ x % 4096 = w.slot (at - 1) (omega arith) in
        record {
          within = omega (arith, w.within, linked_less c e);
          after = λ i g h v.
              ⊎_elim
              (λ a. w.after i a h v)
              (λ a. ⊎_elim
              (λ u. d (at_same map (4096 + (at - 1)) (4096 + i) (omega arith) ∙ v))
              (λ u. linked.after i (omega arith) (omega arith) (ap (λ (y : ℕ). y % 4096) v ∙ sym s))
              (le_or_lt at (i + 1)))
              (le_or_lt at i);
          slot = λ i g. linked.slot i (g ∙ e) ∙ s;
        }

-- where a search starts: at the last place on the slot, or at the one before place i, which has x
module _ {n : ℕ} {map : List ℕ} (f : Filled n map) (x c : ℕ) where
  pub slot-head : c ≡ get_or map (x % 4096) 0 → OnSlot map (x % 4096) n c
  slot-head e = subst (OnSlot map (x % 4096) n) (sym e) (f.head (x % 4096) (omega arith))

  pub slot-link : (i : ℕ) → i < n → number_at map i ≡ x → c ≡ get_or map (12288 + i) 0 → OnSlot map (x % 4096) i c
  slot-link i l q e = subst (λ (y : ℕ). OnSlot map (y % 4096) i c) q (subst (OnSlot map (number_at map i % 4096) i) (sym e) (f.link i l))

-- ---- filling

-- only the numbers before n count
slot_same : (a b : List ℕ) (s n c : ℕ) → ((i : ℕ) → i < n → number_at a i ≡ number_at b i) → OnSlot b s n c → OnSlot a s n c
slot_same a b s n c g w = record {
  within = w.within;
  after = λ i l h e. w.after i l h (ap (λ (y : ℕ). y % 4096) (sym (g i h)) ∙ e);
  slot = λ i e. ap (λ (y : ℕ). y % 4096) (g i (omega (arith, w.within))) ∙ w.slot i e;
}

module _ (map : List ℕ) (n x s : ℕ) (f : Filled n map) (l : n < 8192) (q : s ≡ x % 4096) where
  one : List ℕ
  one = set map (4096 + n) x

  two : List ℕ
  two = set one (12288 + n) (get_or one s 0)

  three : List ℕ
  three = set two s (n + 1)

  s_low : s < 4096
  s_low = omega arith

  long-one : length one ≡ 20480
  unfolding one
  long-one = length-set map (4096 + n) x ∙ f.long

  long-two : length two ≡ 20480
  unfolding two
  long-two = length-set one (12288 + n) (get_or one s 0) ∙ long-one

  long_three : length three ≡ 20480
  unfolding three
  long_three = length-set two s (n + 1) ∙ long-two

  -- what stays
  other : (k : ℕ) → (k ≡ 4096 + n → ⊥) → (k ≡ 12288 + n → ⊥) → (k ≡ s → ⊥) → get_or three k 0 ≡ get_or map k 0
  unfolding one two three
  other k a b c = get_or-set_other two s k (n + 1) 0 c ∙ get_or-set_other one (12288 + n) k (get_or one s 0) 0 b ∙ get_or-set_other map (4096 + n) k x 0 a

  here-head : get_or three s 0 ≡ n + 1
  unfolding three
  here-head = get_or-set_same two s (n + 1) 0 (omega (arith, long-two, s_low))

  here-link : get_or three (12288 + n) 0 ≡ get_or map s 0
  unfolding one two three
  here-link =
      get_or-set_other two s (12288 + n) (n + 1) 0 (λ z. omega (arith, s_low)) ∙ get_or-set_same one (12288 + n) (get_or one s 0) 0 (omega (arith, long-one))
      ∙ get_or-set_other map (4096 + n) s x 0 (λ z. omega (arith, s_low))

  here-number : number_at three n ≡ x
  unfolding number_at one two three
  here-number =
      get_or-set_other two s (4096 + n) (n + 1) 0 (λ z. omega (arith, s_low)) ∙ get_or-set_other one (12288 + n) (4096 + n) (get_or one s 0) 0 (λ z. omega arith)
      ∙ get_or-set_same map (4096 + n) x 0 (omega (arith, f.long))

  stays : (i : ℕ) → i < n → number_at three i ≡ number_at map i
  unfolding number_at
  stays i h = other (4096 + i) (λ z. omega arith) (λ z. omega arith) (λ z. omega (arith, s_low))

  heads : (k : ℕ) → k < 4096 → OnSlot three k (n + 1) (get_or three k 0)
  heads k h = go (ℕ_discrete k s)
    where
      go : Dec (k ≡ s) → OnSlot three k (n + 1) (get_or three k 0)
      go (yes e) = rw e (record {
        within = omega (arith, here-head);
        after = λ i g m. absurd (omega (arith, here-head));
        slot = λ i g. let z : i ≡ n = omega (arith, here-head) in rw z (ap (λ (y : ℕ). y % 4096) here-number ∙ sym q);
      })
      go (no d) =
          let w = f.head k h in
          let e = other k (λ z. omega arith) (λ z. omega arith) d in
          rw e (record {
            within = omega (arith, w.within);
            after = λ i g m v.
                ⊎_elim
                (λ a. let z : i ≡ n = omega arith in d (sym (rw z at v) ∙ ap (λ (y : ℕ). y % 4096) here-number ∙ sym q))
                (λ a. w.after i g a (ap (λ (y : ℕ). y % 4096) (sym (stays i a)) ∙ v))
                (le_or_lt n i);
            slot = λ i g. let a : i < n = omega (arith, w.within) in ap (λ (y : ℕ). y % 4096) (stays i a) ∙ w.slot i g;
          })

  link_stays : (i : ℕ) → i < n → get_or three (12288 + i) 0 ≡ get_or map (12288 + i) 0
  link_stays i h = other (12288 + i) (λ z. omega arith) (λ z. omega arith) (λ z. omega (arith, s_low))

  link_new : OnSlot three (x % 4096) n (get_or map s 0)
  link_new = subst (λ (y : ℕ). OnSlot three y n (get_or map s 0)) q (slot_same three map s n (get_or map s 0) stays (f.head s s_low))

  link_old : (i : ℕ) → i < n → OnSlot three (number_at map i % 4096) i (get_or map (12288 + i) 0)
  link_old i h = slot_same three map (number_at map i % 4096) i (get_or map (12288 + i) 0) (λ j m. stays j (omega arith)) (f.link i h)

  links : (i : ℕ) → i < n + 1 → OnSlot three (number_at three i % 4096) i (get_or three (12288 + i) 0)
  links i h =
      ⊎_elim
      (λ a. let z : i ≡ n = omega arith in rw (z, here-link, here-number) link_new)
      (λ a. rw (link_stays i a, stays i a) (link_old i a))
      (le_or_lt n i)

  pub put_behind : PutBehind map n x (set (set (set map (4096 + n) x) (12288 + n) (get_or (set map (4096 + n) x) s 0)) s (n + 1))
  unfolding one two three
  put_behind = record {
    filled = record { long = long_three; few = omega arith; head = heads; link = links };
    number = here-number;
    stay = stays;
  }

-- an array of zeros
pub blank : Filled 0 (replicate 20480 0)
blank = record {
  long = length-replicate {A = ℕ} 20480 0;
  few = omega arith;
  head = λ s h. let z = zeros 20480 s in record {
    within = omega arith;
    after = λ i g m. absurd (omega arith);
    slot = λ i g. absurd (omega arith);
  };
  link = λ i h. absurd (omega arith);
}
