-- A run put over a part of a list: nothing put, two runs one after the other, the length, and what stands where. Assumes nothing.
use mathlib.Core.Path.{◌≡◌, sym, ap, ◌∙◌}
use mathlib.Core.List.{List, [], ◌∷◌, ◌++◌, append_assoc, append-nil}
use Prim.Native.Nat.{ℕ, ◌+◌, ◌-◌, ◌≤◌, ◌<◌}
use native.Mathlib.Nat.{add-zero}
use native.Mathlib.Omega.{arith}
use native.Mathlib.Numerals.{add-one}
use lib.ListN.{length, get_or, take, drop, set, length-append, length-drop, take-append-drop, get_or-append}
use lib.Seq.{length-take-le, take_at, drop-drop, drop-append-add, get_or-append-add, get_or-take, get_or-drop, set_split, append_snoc}
use Rattle.laws.specs.inner.Lists.{splice}

pub splice_nil : (d : List ℕ) (i : ℕ) → splice d i [] ≡ d
unfolding splice
splice_nil d i = rw (add-zero, append-nil) (take-append-drop i d)

-- what is before the end of the run
front_length : (d : List ℕ) (i : ℕ) (s : List ℕ) → i ≤ length d → length (take i d ++ s) ≡ i + length s
front_length d i s h = length-append (take i d) s ∙ ap (λ (k : ℕ). k + length s) (length-take-le i d h)

pub splice-length : (d : List ℕ) (i : ℕ) (s : List ℕ) → i + length s ≤ length d → length (splice d i s) ≡ length d
unfolding splice
splice-length d i s h =
    omega (arith, length-append (take i d ++ s) (drop (i + length s) d), front_length d i s (omega arith), length-drop (i + length s) d)

-- a run in two steps
pub splice-append : (d : List ℕ) (i : ℕ) (s t : List ℕ) → i ≤ length d → splice d i (s ++ t) ≡ splice (splice d i s) (i + length s) t
unfolding splice
splice-append d i s t h =
    let p : List ℕ = take i d ++ s in
    let f : length p ≡ i + length s = front_length d i s h in
    let q : List ℕ = drop (i + length s) d in
    let e1 : take (i + length s) (p ++ q) ≡ p = take_at p q (i + length s) f in
    let e2 : drop (i + length s + length t) (p ++ q) ≡ drop (length t) q =
    ap (λ (k : ℕ). drop (k + length t) (p ++ q)) (sym f) ∙ drop-append-add p q (length t) in
    let e3 : drop (length t) q ≡ drop (i + length s + length t) d = drop-drop (length t) (i + length s) d in
    let e4 : i + length s + length t ≡ i + length (s ++ t) = omega (arith, length-append s t) in
    sym
    (ap (λ (r : List ℕ). r ++ t ++ drop (i + length s + length t) (p ++ q)) e1
    ∙ ap (λ (r : List ℕ). p ++ t ++ r) (e2 ∙ e3 ∙ ap (λ (k : ℕ). drop k d) e4)
    ∙ ap (λ (r : List ℕ). r ++ drop (i + length (s ++ t)) d) (append_assoc (take i d) s t))

pub splice-before : (d : List ℕ) (i : ℕ) (s : List ℕ) (j : ℕ) → i ≤ length d → j < i → get_or (splice d i s) j 0 ≡ get_or d j 0
unfolding splice
splice-before d i s j h b =
    let f = front_length d i s h in
    let l = length-take-le i d h in
    get_or-append (take i d ++ s) (drop (i + length s) d) 0 j (omega arith)
    ∙ get_or-append (take i d) s 0 j (omega arith)
    ∙ get_or-take i d j 0 b

pub splice_in : (d : List ℕ) (i : ℕ) (s : List ℕ) (j : ℕ) → i ≤ length d → j < length s → get_or (splice d i s) (i + j) 0 ≡ get_or s j 0
unfolding splice
splice_in d i s j h b =
    let f = front_length d i s h in
    get_or-append (take i d ++ s) (drop (i + length s) d) 0 (i + j) (omega arith)
    ∙ ap (λ (k : ℕ). get_or (take i d ++ s) (k + j) 0) (sym (length-take-le i d h))
    ∙ get_or-append-add (take i d) s j 0

pub splice-after : (d : List ℕ) (i : ℕ) (s : List ℕ) (j : ℕ) → i ≤ length d → i + length s ≤ j → get_or (splice d i s) j 0 ≡ get_or d j 0
unfolding splice
splice-after d i s j h b =
    let e : length (take i d ++ s) + (j - (i + length s)) ≡ j = omega (arith, front_length d i s h) in
    let g : i + length s + (j - (i + length s)) ≡ j = omega arith in
    ap (λ (k : ℕ). get_or (take i d ++ s ++ drop (i + length s) d) k 0) (sym e)
    ∙ get_or-append-add (take i d ++ s) (drop (i + length s) d) (j - (i + length s)) 0
    ∙ get_or-drop (i + length s) d (j - (i + length s)) 0
    ∙ ap (λ (k : ℕ). get_or d k 0) g

-- a store is a run of one
pub set-splice : (d : List ℕ) (i a : ℕ) → i < length d → set d i a ≡ splice d i (a ∷ [])
unfolding splice
set-splice d i a h =
    set_split d i a h
    ∙ ap (λ (k : ℕ). take i d ++ a ∷ drop k d) (sym (add-one i))
    ∙ sym (append_snoc (take i d) a (drop (i + 1) d))

-- a run, its first element stored
pub splice_cons : (d : List ℕ) (i a : ℕ) (s : List ℕ) → i < length d → splice d i (a ∷ s) ≡ splice (set d i a) (i + 1) s
splice_cons d i a s h = splice-append d i (a ∷ []) s (omega arith) ∙ ap (λ (r : List ℕ). splice r (i + 1) s) (sym (set-splice d i a h))
