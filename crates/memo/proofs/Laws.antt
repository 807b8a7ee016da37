-- How a slot is read and taken over. Assumes nothing.
use Prim.Native.Nat.{ℕ, ◌+◌, ◌<◌}
use native.Mathlib.Decide.{ℕ_discrete}
use native.Mathlib.Omega.{arith}
use mathlib.Core.Path.{◌≡◌, ap, sym, ◌∙◌}
use mathlib.Core.List.{List}
use Rattle.std.specs.Prelude.{Some}
use lib.ListN.{length, get_or, set, replicate, length-set, length-replicate}
use lib.Seq.{get_or-set_same, get_or-set_other}
use Rattle.laws.proofs.Zeros.{zeros}
use Rattle.memo.specs.inner.Memo.{Remembers, Recalled, TakenOver}

pub recalled : (memo : List ℕ) (s x n r : ℕ) → s < 1024 → get_or memo s 0 ≡ x → get_or memo (1024 + s) 0 ≡ n → r ≡ get_or memo (2048 + s) 0 → Recalled memo x n (Some r)
recalled memo s x n r l p q e = record {
  right = λ v w F m. let i : v ≡ r = cc in i ∙ e ∙ m.slot s l ∙ ap (λ (a : ℕ). F a (get_or memo (1024 + s) 0)) p ∙ ap (F x) q;
}

-- a slot taken over
module _ (F : ℕ → ℕ → ℕ) (memo : List ℕ) (s x n v : ℕ) (l : s < 1024) (m : Remembers F memo) (e : v ≡ F x n) where
  one : List ℕ
  one = set memo s x

  two : List ℕ
  two = set one (1024 + s) n

  three : List ℕ
  three = set two (2048 + s) v

  long-one : length one ≡ 3072
  unfolding one
  long-one = length-set memo s x ∙ m.long

  long-two : length two ≡ 3072
  unfolding two
  long-two = length-set one (1024 + s) n ∙ long-one

  long_three : length three ≡ 3072
  unfolding three
  long_three = length-set two (2048 + s) v ∙ long-two

  here_x : get_or three s 0 ≡ x
  unfolding one two three
  here_x = get_or-set_other two (2048 + s) s v 0 (λ z. omega arith) ∙ get_or-set_other one (1024 + s) s n 0 (λ z. omega arith) ∙ get_or-set_same memo s x 0 (omega (arith, m.long))

  here_n : get_or three (1024 + s) 0 ≡ n
  unfolding two three
  here_n = get_or-set_other two (2048 + s) (1024 + s) v 0 (λ z. omega arith) ∙ get_or-set_same one (1024 + s) n 0 (omega (arith, long-one))

  here_v : get_or three (2048 + s) 0 ≡ v
  unfolding three
  here_v = get_or-set_same two (2048 + s) v 0 (omega (arith, long-two))

  other : (k : ℕ) → (k ≡ s → ⊥) → (k ≡ 1024 + s → ⊥) → (k ≡ 2048 + s → ⊥) → get_or three k 0 ≡ get_or memo k 0
  unfolding one two three
  other k a b c = get_or-set_other two (2048 + s) k v 0 c ∙ get_or-set_other one (1024 + s) k n 0 b ∙ get_or-set_other memo s k x 0 a

  slots : (k : ℕ) → k < 1024 → get_or three (2048 + k) 0 ≡ F (get_or three k 0) (get_or three (1024 + k) 0)
  slots k h = go (ℕ_discrete k s)
    where
      go : Dec (k ≡ s) → get_or three (2048 + k) 0 ≡ F (get_or three k 0) (get_or three (1024 + k) 0)
      go (yes z) = rw z (here_v ∙ e ∙ sym (ap (λ (a : ℕ). F a (get_or three (1024 + s) 0)) here_x ∙ ap (F x) here_n))
      go (no z) =
          other (2048 + k) (λ w. omega arith) (λ w. omega arith) (λ w. z (omega arith)) ∙ m.slot k h
          ∙ sym (ap (λ (a : ℕ). F a (get_or three (1024 + k) 0)) (other k z (λ w. omega arith) (λ w. omega arith))
          ∙ ap (F (get_or memo k 0)) (other (1024 + k) (λ w. omega arith) (λ w. z (omega arith)) (λ w. omega arith)))

  remembered : Remembers F (set (set (set memo s x) (1024 + s) n) (2048 + s) v)
  unfolding one two three
  remembered = record { long = long_three; slot = slots }

pub taken : (memo : List ℕ) (s x n v : ℕ) → s < 1024 → TakenOver memo x n v (set (set (set memo s x) (1024 + s) n) (2048 + s) v)
taken memo s x n v l = record { right = λ F m e. remembered F memo s x n v l m e }

-- all zeros, of a function that is 0 at 0 and 0
pub blank : (F : ℕ → ℕ → ℕ) → F 0 0 ≡ 0 → Remembers F (replicate 3072 0)
blank F e = record {
  long = length-replicate {A = ℕ} 3072 0;
  slot = λ s l. zeros 3072 (2048 + s) ∙ sym (ap (λ (a : ℕ). F a (get_or (replicate 3072 0) (1024 + s) 0)) (zeros 3072 s) ∙ ap (F 0) (zeros 3072 (1024 + s)) ∙ e);
}
