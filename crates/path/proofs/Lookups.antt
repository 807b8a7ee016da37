-- The names of a path looked up one after the other: what is known after n of them. Assumes nothing.
use Rattle.tree.specs.Chain.{most_levels, deepest_level}
use mathlib.Core.Path.{◌≡◌, refl, sym, ap, ◌∙◌}
use mathlib.Core.Logic.{◌⊎◌, inl, inr}
use mathlib.Core.List.{List, ◌∷◌}
use Prim.Native.Nat.{ℕ, suc, ◌+◌, ◌-◌, ◌*◌, ◌/◌, ◌%◌, ◌≤◌, ◌<◌}
use native.Mathlib.Nat.{not-suc-le-zero, add-zero, zero-add}
use native.Mathlib.Omega.{arith}
use lib.ListN.{length, get_or, set, replicate, length-set}
use lib.Seq.{get_or-set_other}
use Rattle.laws.proofs.Zeros.{zeros}
use Rattle.verdict.proofs.Laws.{Clean}
use Rattle.text.specs.Text.{chars}
use Rattle.layout.specs.declared.Edition.{Edition}
use Rattle.strings.proofs.Filling.{fill}
use Rattle.keys.specs.Names.{Bears}
use Rattle.path.specs.Names.{names_of, name_at, path_checks}
use Rattle.path.specs.inner.Indices.{NameEnd, Unborne, WantedIs}
use Rattle.path.proofs.Split.{names_from, names_start, names_end, names_more, names-some}
use Rattle.path.proofs.Formed.{formed_inv}

-- the first n names are those of the indices, and the names left start at offset `at`
pub record Sofar (ed : Edition) (b path : List ℕ) (n at : ℕ) (indices : List ℕ) : Type 0 where
  pub long : length indices ≡ most_levels
  pub few : n ≤ deepest_level
  pub even : at % 2 ≡ 0
  pub within : at ≤ length path
  pub left : n + length (names_from path at) ≡ length (names_of path)
  pub same : (i : ℕ) → name_at (names_of path) (n + i) ≡ name_at (names_from path at) i
  pub index : (i : ℕ) → i < n → Bears ed b (get_or indices i 0) (name_at (names_of path) i)
  pub rest : (i : ℕ) → n ≤ i → get_or indices i 0 ≡ 0

pub sofar_start : (ed : Edition) (b path : List ℕ) → Sofar ed b path 0 0 (replicate most_levels 0)
sofar_start ed b path = record {
  long = refl;
  few = omega arith;
  even = refl;
  within = omega arith;
  left = omega (arith, ap length (names_start path));
  same = λ i. rw (zero-add i, names_start path);
  index = λ i h. absurd (not-suc-le-zero h);
  rest = λ i h. zeros most_levels i;
}

module _ {ed : Edition} {b path : List ℕ} {n at : ℕ} {indices : List ℕ} (ok : Clean (path_checks path)) (w : Sofar ed b path n at indices) where
  module _ (k : ℕ) (h : NameEnd path at (at + 2 * k)) where
    next_names : names_from path at ≡ chars path at k ∷ names_from path (at + (2 * k + 2))
    next_names =
        let e : (at + 2 * k - at) / 2 ≡ k = omega arith in
        let f : at + 2 * k + 2 ≡ at + (2 * k + 2) = omega arith in
        rw (e, f) at (names_more path at (at + 2 * k) (formed_inv path ok).0 w.even h)

    next_name : name_at (names_of path) n ≡ chars path at k
    unfolding name_at
    next_name = ap (name_at (names_of path)) (sym (add-zero n)) ∙ w.same 0 ∙ ap (λ (xs : List (List ℕ)). name_at xs 0) next_names

    pub sofar_more : n < deepest_level → (i : ℕ) → Bears ed b i (chars path at k) → Sofar ed b path (n + 1) (at + (2 * k + 2)) (set indices n i)
    unfolding name_at
    sofar_more f i g = record {
      long = simp length-set w.long;
      few = omega arith;
      even = omega (arith, h.even);
      within = omega (arith, h.within);
      left = omega (arith, w.left, ap length next_names);
      same = λ k.
          let q : n + 1 + k ≡ n + suc k = omega arith in
          rw q (w.same (suc k) ∙ ap (λ (xs : List (List ℕ)). name_at xs (suc k)) next_names);
      index = fill (λ (k y : ℕ). Bears ed b y (name_at (names_of path) k)) indices n i (omega (arith, w.long)) w.index (rw next_name g);
      rest = λ k l. rw (get_or-set_other indices n k i 0 (λ q. absurd (omega arith))) (w.rest k (omega arith));
    }

  -- all names
  pub sofar_all : at ≡ length path → WantedIs ed b path (record { count = n; indices = indices })
  sofar_all h = record { long = w.long; few = w.few; many = omega (arith, w.left, ap length (names_end path at (omega arith))); index = w.index; rest = w.rest }

  -- what is known so far where no node can bear them
  unborne : ((n ≡ deepest_level) × (deepest_level < length (names_of path))) ⊎ ((n < length (names_of path)) × ((k : ℕ) → Bears ed b k (name_at (names_of path) n) → ⊥))
      → Unborne ed b path
  unborne f = record { count = n; few = w.few; index = λ i l. (get_or indices i 0, w.index i l); none = f }

  -- more names than a chain can bear
  pub sofar_long : at < length path → n ≡ deepest_level → Unborne ed b path
  sofar_long h l = unborne (inl (l, omega (arith, w.left, names-some path at ok w.even h)))

  -- a name that is no name of the file
  pub sofar_absent : (k : ℕ) → NameEnd path at (at + 2 * k) → ((i : ℕ) → Bears ed b i (chars path at k) → ⊥) → Unborne ed b path
  sofar_absent k h f = unborne (inr (omega (arith, w.left, ap length (next_names k h)), λ i y. f i (rw (next_name k h) at y)))
