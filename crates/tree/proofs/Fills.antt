-- Runs of one byte put over a part of a list, and what lies behind them. Assumes nothing.
use Prim.Native.Nat.{ℕ, ◌+◌, ◌-◌, ◌≤◌, ◌<◌}
use native.Mathlib.Omega.{arith}
use mathlib.Core.Path.{◌≡◌, sym, ap, ◌∙◌}
use mathlib.Core.List.{List, ◌++◌, append_assoc}
use lib.ListN.{length, drop, take, get_or, replicate, length-append, length-replicate, get_or-replicate}
use lib.Seq.{length-take-le, drop-append-add, drop-drop}
use borrow.Rule.Slice.PartMut.{put_mid}
use Rattle.laws.specs.inner.Lists.{splice}
use Rattle.laws.proofs.Splice.{splice_in}

-- a part of d that the code filled: n bytes from i on, which r holds
pub filled : (d r : List ℕ) (i k n x : ℕ) → k ≡ n → r ≡ replicate n x → put_mid i k d r ≡ splice d i (replicate n x)
unfolding splice
filled d r i k n x q e =
    rw (q, e, length-replicate)
    (sym (append_assoc (take i d) (replicate n x) (drop n (drop i d))) ∙ ap (λ (t : List ℕ). take i d ++ replicate n x ++ t) (drop-drop n i d))

-- each of its bytes
pub fill_in : (d : List ℕ) (i n x j : ℕ) → i + n ≤ length d → j < n → get_or (splice d i (replicate n x)) (i + j) 0 ≡ x
fill_in d i n x j h l =
    let z = length-replicate n x in
    splice_in d i (replicate n x) j (omega arith) (omega arith) ∙ get_or-replicate n j x 0 l

-- what lies from n on stays under a run that ends at n or before
pub splice-drop : (d : List ℕ) (i : ℕ) (s : List ℕ) (n : ℕ) → i + length s ≤ n → n ≤ length d → drop n (splice d i s) ≡ drop n d
unfolding splice
splice-drop d i s n h k =
    let p : List ℕ = take i d ++ s in
    let l : length p ≡ i + length s = length-append (take i d) s ∙ ap (λ (m : ℕ). m + length s) (length-take-le i d (omega arith)) in
    let e : n ≡ length p + (n - length p) = omega arith in
    let g : i + length s + (n - length p) ≡ n = omega arith in
    ap (λ (m : ℕ). drop m (p ++ drop (i + length s) d)) e
    ∙ drop-append-add p (drop (i + length s) d) (n - length p)
    ∙ drop-drop (n - length p) (i + length s) d
    ∙ ap (λ (m : ℕ). drop m d) g
