-- A list that is filled place by place. Assumes nothing.
use Prim.Native.Nat.{ℕ, ◌+◌, ◌≤◌, ◌<◌}
use native.Mathlib.Nat.{eq-or-lt_of_le}
use native.Mathlib.Omega.{arith}
use mathlib.Core.Path.{◌≡◌, ◌∙◌}
use mathlib.Core.Logic.{⊎_elim}
use mathlib.Core.List.{List}
use lib.ListN.{length, get_or, set}
use lib.Seq.{get_or-set_same, get_or-set_other}

-- xs holds f at each place below k
abbrev pub Filled : (ℕ → ℕ) → ℕ → List ℕ → Type 0
Filled f k xs = (i : ℕ) → i < k → get_or xs i 0 ≡ f i

pub filled_more : (f : ℕ → ℕ) (k x : ℕ) (xs : List ℕ) → Filled f k xs → x ≡ f k → k < length xs → Filled f (k + 1) (set xs k x)
filled_more f k x xs g q h i l =
    let m : i ≤ k = omega arith in
    ⊎_elim
    (λ e. rw e (get_or-set_same xs k x 0 h ∙ q))
    (λ d. get_or-set_other xs k i x 0 (λ e. omega arith) ∙ g i d)
    (eq-or-lt_of_le m)
