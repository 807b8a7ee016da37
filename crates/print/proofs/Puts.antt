-- Laws of `overlay`, `sat` and `Put`: nothing put, one byte, two runs one after the other, a run put in steps, and the whole
-- of what was put at the front. Assumes nothing.
use mathlib.Core.Path.{◌≡◌, refl, sym, ap, ◌∙◌}
use mathlib.Core.Logic.{⊎_elim}
use mathlib.Core.List.{List, [], ◌∷◌, ◌++◌}
use Prim.Native.Nat.{ℕ, zero, suc, ◌+◌, ◌≤◌, ◌<◌}
use native.Mathlib.Nat.{not-suc-le-zero, le_of_suc-le-suc, suc-add, add-zero, zero-add}
use native.Mathlib.Omega.{arith}
use lib.ListN.{length, drop, set, length-append}
use Rattle.laws.proofs.Order.{le_or_lt}
use Rattle.print.specs.inner.Put.{overlay, sat, Put}

abbrev pub top : ℕ
top = 18446744073709551615

pub sat_le : (n : ℕ) → n ≤ top → sat n ≡ n
unfolding sat
sat_le n h = omega arith

pub sat_ge : (n : ℕ) → top ≤ n → sat n ≡ top
unfolding sat
sat_ge n h = omega arith

pub overlay_nil : (d : List ℕ) (i : ℕ) → overlay d i [] ≡ d
unfolding overlay
overlay_nil [] i = refl
overlay_nil (x ∷ d) zero = refl
overlay_nil (x ∷ d) (suc i) = ap (λ (l : List ℕ). x ∷ l) (overlay_nil d i)

pub length-overlay : (d : List ℕ) (i : ℕ) (s : List ℕ) → length (overlay d i s) ≡ length d
unfolding overlay
length-overlay [] i s = refl
length-overlay (x ∷ d) zero [] = refl
length-overlay (x ∷ d) zero (b ∷ s) = ap suc (length-overlay d zero s)
length-overlay (x ∷ d) (suc i) s = ap suc (length-overlay d i s)

pub overlay-past : (d : List ℕ) (i : ℕ) (s : List ℕ) → length d ≤ i → overlay d i s ≡ d
unfolding overlay
overlay-past [] i s h = refl
overlay-past (x ∷ d) zero s h = absurd (not-suc-le-zero h)
overlay-past (x ∷ d) (suc i) s h = ap (λ (l : List ℕ). x ∷ l) (overlay-past d i s (le_of_suc-le-suc h))

pub overlay-one : (d : List ℕ) (i b : ℕ) → i < length d → set d i b ≡ overlay d i (b ∷ [])
unfolding overlay
overlay-one [] i b h = absurd (not-suc-le-zero h)
overlay-one (x ∷ d) zero b h = ap (λ (l : List ℕ). b ∷ l) (sym (overlay_nil d zero))
overlay-one (x ∷ d) (suc i) b h = ap (λ (l : List ℕ). x ∷ l) (overlay-one d i b (le_of_suc-le-suc h))

pub overlay-append : (d : List ℕ) (i : ℕ) (s t : List ℕ) → overlay (overlay d i s) (i + length s) t ≡ overlay d i (s ++ t)
unfolding overlay
overlay-append [] i s t = refl
overlay-append (x ∷ d) zero [] t = refl
overlay-append (x ∷ d) zero (b ∷ s) t = rw (zero-add, ← zero-add (length s)) (ap (λ (l : List ℕ). b ∷ l) (overlay-append d zero s t))
overlay-append (x ∷ d) (suc i) s t = rw suc-add (ap (λ (l : List ℕ). x ∷ l) (overlay-append d i s t))

-- an index that stopped at the top is past the end all the same
overlay-sat : (d : List ℕ) (i : ℕ) (s : List ℕ) → length d ≤ top → overlay d (sat i) s ≡ overlay d i s
overlay-sat d i s h =
    ⊎_elim (λ l. ap (λ (k : ℕ). overlay d k s) (sat_le i l))
    (λ g. ap (λ (k : ℕ). overlay d k s) (sat_ge i (omega arith)) ∙ overlay-past d top s h ∙ sym (overlay-past d i s (omega arith)))
    (le_or_lt i top)

sat-sat : (n m : ℕ) → sat (sat n + m) ≡ sat (n + m)
unfolding sat
sat-sat n m = omega arith

pub put_none : (d : List ℕ) (i : ℕ) → i ≤ top → Put d i [] i d
put_none d i h = record { next_is = sym (rw add-zero (sat_le i h)); bytes_are = sym (overlay_nil d i) }

pub put_then : {d d' d'' : List ℕ} {i p q : ℕ} {s t : List ℕ} → length d ≤ top → Put d i s p d' → Put d' p t q d'' → Put d i (s ++ t) q d''
put_then {d} {d'} {d''} {i} {p} {q} {s} {t} h a b = record {
  next_is =
      b.next_is ∙ ap (λ (k : ℕ). sat (k + length t)) a.next_is ∙ sat-sat (i + length s) (length t)
      ∙ ap sat (let e = length-append s t in omega arith);
  bytes_are =
      b.bytes_are ∙ ap (λ (l : List ℕ). overlay l p t) a.bytes_are ∙ ap (λ (k : ℕ). overlay (overlay d i s) k t) a.next_is
      ∙ overlay-sat (overlay d i s) (i + length s) t (let e = length-overlay d i s in omega arith) ∙ overlay-append d i s t;
}

pub put_same : {d d' : List ℕ} {i p : ℕ} {s t : List ℕ} → s ≡ t → Put d i s p d' → Put d i t p d'
put_same {d} {d'} {i} {p} {s} {t} e a = rw⁻¹ e a

pub length_put : {d d' : List ℕ} {i p : ℕ} {s : List ℕ} → Put d i s p d' → length d' ≡ length d
length_put {d} {d'} {i} {p} {s} a = ap length a.bytes_are ∙ length-overlay d i s

-- ---- a run in steps

-- Of s, to be put over d from i on, t is left: put over d' from p on, it completes s.
pub record Left (d : List ℕ) (i : ℕ) (s : List ℕ) (p : ℕ) (t : List ℕ) (d' : List ℕ) : Type 0 where
  pub room : length d ≤ top
  pub size : length d' ≡ length d
  pub low : p ≤ top
  pub rest : (q : ℕ) (e : List ℕ) → Put d' p t q e → Put d i s q e

pub left_start : {d : List ℕ} {i : ℕ} {s t : List ℕ} → length d ≤ top → i ≤ top → t ≡ s → Left d i s i t d
left_start {d} {i} {s} h l e = record { room = h; size = refl; low = l; rest = λ q f a. put_same e a }

next_low : {d d' : List ℕ} {i p : ℕ} {s : List ℕ} → Put d i s p d' → p ≤ top
unfolding sat
next_low a = omega (arith, a.next_is)

-- a part of what is left was put
pub left_more : {d d' d'' : List ℕ} {i p q : ℕ} {s t u v : List ℕ} → Left d i s p t d' → Put d' p u q d'' → u ++ v ≡ t → Left d i s q v d''
left_more {d} {d'} {d''} {i} {p} {q} {s} {t} {u} {v} l a e = record {
  room = l.room;
  size = length_put a ∙ l.size;
  low = next_low a;
  rest = λ r f b. l.rest r f (put_same e (put_then (let z = l.size in let y = l.room in omega arith) a b));
}

-- nothing is left
pub left_end : {d d' : List ℕ} {i p : ℕ} {s t : List ℕ} → Left d i s p t d' → t ≡ [] → Put d i s p d'
left_end {d} {d'} {i} {p} {s} {t} l e = l.rest p d' (put_same (sym e) (put_none d' p l.low))

-- ---- put at the front

overlay_front : (d s : List ℕ) → length s ≤ length d → overlay d 0 s ≡ s ++ drop (length s) d
unfolding overlay
overlay_front [] [] h = refl
overlay_front [] (b ∷ s) h = absurd (not-suc-le-zero h)
overlay_front (x ∷ d) [] h = refl
overlay_front (x ∷ d) (b ∷ s) h = ap (λ (l : List ℕ). b ∷ l) (overlay_front d s (le_of_suc-le-suc h))

-- where it ends, also where the buffer is shorter
pub put_length : {d d' : List ℕ} {next : ℕ} {s : List ℕ} → Put d 0 s next d' → length s ≤ top → next ≡ length s
put_length {d} {d'} {next} {s} a h = a.next_is ∙ rw zero-add (sat_le (length s) h)

-- what stands there, where the buffer has room
pub put_front : {d d' : List ℕ} {next : ℕ} {s : List ℕ} → Put d 0 s next d' → length s ≤ length d → d' ≡ s ++ drop (length s) d
put_front {d} {d'} {next} {s} a h = a.bytes_are ∙ overlay_front d s h
