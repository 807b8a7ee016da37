-- What holds of each number of a range where `all` answers true. Assumes nothing.
use Prim.Native.Nat.{ℕ, ◌<◌}
use native.Mathlib.Omega.{arith}
use mathlib.Core.Path.{◌≡◌, subst}
use mathlib.Core.List.{List}
use lib.ListN.{get_or}
use mathlib.Core.Bool.{Bool, true, false}
use denote.Param.Members.{Mut}
use Rattle.std.specs.Prelude.{Option}
use Rattle.std.specs.Fn.{Called}
use Rattle.std.specs.List.{FoldsTo, range_with_len}
use Rattle.std.specs.Option.{MatchOption}
use Rattle.std.specs.Iterator.{YieldsThen}
use Rattle.std.specs.declared.ops.Range.{Range}
use Rattle.std.proofs.iter.Yields.{nat_range_steps}
use Rattle.std.proofs.lemmas.Iterator.{cases_from_all, YieldsList-from_range}
use Rattle.std.proofs.lemmas.List.FromFn.{length-range_with_len, get_or-range_with_len}

pub every : {F : Type 0} {g : Mut F (ℕ × Unit {0}) Bool} {s : Range ℕ} (u : Range ℕ) (f : F) (r : Bool) (n : ℕ) (Yes : ℕ → Type 0) → s ≡ record { start = 0; end = n }
    → (xs : List ℕ) × (o : Option ℕ) × (j : F) × YieldsThen nat_range_steps s xs o u × FoldsTo (λ p x q. Called g p (x, tt {0}) true q) f xs j × MatchOption o (r ≡ true) (λ x. (r ≡ false) × ((h : F) × Called g j (x, tt {0}) false h))
    → ((x : ℕ) (q : F) → Called g f (x, tt {0}) true q → (q ≡ f) × Yes x) → r ≡ true → (k : ℕ) → k < n → Yes k
every {g = g} u f r n Yes e ran each z k l =
    let w = cases_from_all {g = g} u f r Yes (λ (x : ℕ). Unit {0}) ran (YieldsList-from_range 0 n n e (omega arith)) each (λ x q c. tt) in
    let v = rw z at w in
    let q : get_or (range_with_len 0 n) k 0 ≡ k = omega (arith, get_or-range_with_len 0 n k 0 l) in
    subst Yes q (v k 0 (omega arith) (omega (arith, length-range_with_len 0 n)))
