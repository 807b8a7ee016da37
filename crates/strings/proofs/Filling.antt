-- Arrays that are filled place by place: what holds of each place below j holds of one more. Assumes nothing.
use Prim.Native.Nat.{ℕ, ◌+◌, ◌<◌}
use native.Mathlib.Omega.{arith}
use native.Mathlib.Decide.{ℕ_discrete}
use mathlib.Core.Path.{◌≡◌}
use mathlib.Core.Logic.{by_cases}
use mathlib.Core.List.{List}
use lib.ListN.{length, get_or, set}
use lib.Seq.{get_or-set_same, get_or-set_other}

-- two, of which the same place is set: what holds there holds of the new values, and elsewhere of the old ones
pub set_at : (P : ℕ → ℕ → ℕ → Type 0) (xs ys : List ℕ) (j x y : ℕ) → j < length xs → j < length ys → P j x y → (i : ℕ)
    → ((i ≡ j → ⊥) → P i (get_or xs i 0) (get_or ys i 0)) → P i (get_or (set xs j x) i 0) (get_or (set ys j y) i 0)
set_at P xs ys j x y l m h i f =
    by_cases (ℕ_discrete i j)
    (λ e. rw e (rw (get_or-set_same xs j x 0 l, get_or-set_same ys j y 0 m) h))
    (λ d. rw (get_or-set_other xs j i x 0 d, get_or-set_other ys j i y 0 d) (f d))

-- two, one place more
pub fill_both : (P : ℕ → ℕ → ℕ → Type 0) (xs ys : List ℕ) (j x y : ℕ) → j < length xs → j < length ys
    → ((i : ℕ) → i < j → P i (get_or xs i 0) (get_or ys i 0)) → P j x y → (i : ℕ) → i < j + 1 → P i (get_or (set xs j x) i 0) (get_or (set ys j y) i 0)
fill_both P xs ys j x y l m f h i k = set_at P xs ys j x y l m h i (λ d. f i (omega arith))

-- one array, of any elements
pub fill_any : {A : Type 0} (d : A) (P : ℕ → A → Type 0) (xs : List A) (j : ℕ) (x : A) → j < length xs → ((i : ℕ) → i < j → P i (get_or xs i d)) → P j x
    → (i : ℕ) → i < j + 1 → P i (get_or (set xs j x) i d)
fill_any d P xs j x l f h i k =
    by_cases (ℕ_discrete i j)
    (λ e. rw e (rw (get_or-set_same xs j x d l) h))
    (λ n. rw (get_or-set_other xs j i x d n) (f i (omega arith)))

-- one array of numbers
pub fill : (P : ℕ → ℕ → Type 0) (xs : List ℕ) (j x : ℕ) → j < length xs → ((i : ℕ) → i < j → P i (get_or xs i 0)) → P j x
    → (i : ℕ) → i < j + 1 → P i (get_or (set xs j x) i 0)
fill = fill_any 0
