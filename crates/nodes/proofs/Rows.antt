-- Rows of rows of checks, and what two nested loops over them have left: m rows, n k of them in row k. Assumes nothing.
use Prim.Native.Nat.{ℕ, ◌+◌, ◌-◌, ◌≤◌, ◌<◌}
use native.Mathlib.Omega.{arith}
use mathlib.Core.Path.{◌≡◌, refl, ap, sym, ◌∙◌}
use mathlib.Core.List.{List, ◌++◌}
use Rattle.verdict.specs.Checks.{Check, first_fault, each}
use Rattle.verdict.specs.Verdict.{Verdict, Accepted, Refused}
use Rattle.verdict.proofs.Laws.{each_step, row-none, row_more, row_stop}
use Rattle.verdict.proofs.Scans.{each_end}

abbrev row : (ℕ → ℕ → List Check) → (ℕ → ℕ) → ℕ → List Check
row f n k = each (f k) (n k) 0

-- from row k on
unfoldable pub rows_left : (ℕ → ℕ → List Check) → (ℕ → ℕ) → ℕ → ℕ → Verdict
rows_left f n m k = first_fault (each (row f n) (m - k) k)

-- from place j of row k on
unfoldable pub places_left : (ℕ → ℕ → List Check) → (ℕ → ℕ) → ℕ → ℕ → ℕ → Verdict
places_left f n m k j = first_fault (each (f k) (n k - j) j ++ each (row f n) (m - (k + 1)) (k + 1))

module _ (f : ℕ → ℕ → List Check) (n : ℕ → ℕ) (m : ℕ) where
  pub left_start : first_fault (each (row f n) m 0) ≡ rows_left f n m 0
  unfolding rows_left
  left_start = let z : m - 0 ≡ m = omega arith in rw z refl

  pub left_open : (k : ℕ) → k < m → rows_left f n m k ≡ places_left f n m k 0
  unfolding rows_left places_left
  left_open k h =
      let z : n k - 0 ≡ n k = omega arith in
      rw z (ap first_fault (each_step (row f n) (m - k) (m - (k + 1)) k (omega arith)))

  -- the checks at a place gave v
  pub left_more : (k j : ℕ) {v : Verdict} → j < n k → v ≡ first_fault (f k j) → v ≡ Accepted → places_left f n m k j ≡ places_left f n m k (j + 1)
  unfolding places_left
  left_more k j h q e = row_more (f k) (n k - j) (n k - (j + 1)) j _ (omega arith) (sym q ∙ e)

  pub left_stop : (k j : ℕ) {v : Verdict} {a b : ℕ} → j < n k → v ≡ first_fault (f k j) → v ≡ Refused a b → places_left f n m k j ≡ Refused a b
  unfolding places_left
  left_stop k j h q e = row_stop (f k) (n k - j) j _ (omega arith) (sym q ∙ e)

  pub left_next : (k j : ℕ) → n k ≤ j → places_left f n m k j ≡ rows_left f n m (k + 1)
  unfolding places_left rows_left
  left_next k j h = row-none (f k) (n k - j) j _ (omega arith)

  pub left_none : (k : ℕ) → m ≤ k → rows_left f n m k ≡ Accepted
  unfolding rows_left
  left_none k h = each_end (row f n) (m - k) k (omega arith)
