-- The answers of a group of texts, written one after the other. Assumes nothing.
use Prim.Native.Nat.{ℕ, ◌+◌, ◌*◌, ◌%◌, ◌≤◌, ◌<◌}
use native.Mathlib.Omega.{arith}
use mathlib.Core.Path.{◌≡◌, sym}
use mathlib.Core.List.{List}
use lib.ListN.{get_or}
use Rattle.laws.specs.inner.Lists.{splice}
use Rattle.verdict.proofs.Laws.{Clean}
use Rattle.text.specs.Text.{chars}
use Rattle.lookup.specs.declared.Lookup.{Lookup}
use Rattle.path.specs.Names.{path_checks}
use Rattle.batch.specs.Places.{place}
use Rattle.batch.specs.inner.Groups.{stands_at, Group}
use Rattle.batch.proofs.Placed.{TextAt, text_measured, Writing, writing_more}
use Rattle.batch.proofs.Slots.{stands_first, stands_next, stands_on, stands_even}

-- of a group from offset a on j texts are answered: whatever holds of the answers d, the number m of their place and the offset a where the
-- group begins, holds of d', m + j and a' now
pub record Going (f : List ℕ → Lookup) (texts : List ℕ) (d : List ℕ) (m a n : ℕ) (lengths hashes : List ℕ) (j : ℕ) (d' : List ℕ) (a' : ℕ) : Type 0 where
  pub group : Group texts a n lengths hashes
  pub upto : j ≤ n
  pub stands : a' ≡ stands_at a lengths j
  pub kept : (o : List ℕ) → Writing f texts o (8 * m) a d → Writing f texts o (8 * (m + j)) a' d'

module _ (f : List ℕ → Lookup) {texts : List ℕ} (d : List ℕ) (m : ℕ) {a n : ℕ} {lengths hashes : List ℕ} where
  pub going_start : Group texts a n lengths hashes → Going f texts d m a n lengths hashes 0 d a
  going_start g = let e : 8 * m ≡ 8 * (m + 0) = omega arith in record { group = g; upto = omega arith; stands = sym (stands_first _ _); kept = λ o w. rw e at w }

module _ {f : List ℕ → Lookup} {texts d : List ℕ} {m a n : ℕ} {lengths hashes : List ℕ} {j : ℕ} {d' : List ℕ} {a' : ℕ}
    (g : Going f texts d m a n lengths hashes j d' a') where
  -- the next text
  pub going_text : Clean (path_checks texts) → a % 2 ≡ 0 → j < n → TextAt texts a' (get_or lengths j 0) (get_or hashes j 0)
  going_text ok e l =
      text_measured texts a' ok
      (omega (arith, g.stands, stands_even a lengths j e))
      (omega (arith, g.stands, g.group.within j l))
      (rw g.stands (g.group.read j l))

  pub going_more : {h : ℕ} {l : Lookup} {d'' : List ℕ} → j < n → TextAt texts a' (get_or lengths j 0) h → l ≡ f (chars texts a' (get_or lengths j 0)) → d'' ≡ splice d' (8 * (m + j)) (place l)
      → Going f texts d m a n lengths hashes (j + 1) d'' (a' + (2 * get_or lengths j 0 + 2))
  going_more l t p q = let e : 8 * (m + j) + 8 ≡ 8 * (m + (j + 1)) = omega arith in record {
    group = g.group;
    upto = omega arith;
    stands = omega (arith, g.stands, stands_next a lengths j);
    kept = λ o w. rw e at (writing_more f texts (g.kept o w) t p q);
  }

  -- the whole group is answered
  pub going_all : (j < n → ⊥) → {o : List ℕ} → Writing f texts o (8 * m) a d → Writing f texts o (8 * (m + n)) a' d'
  going_all l {o} w = let e : j ≡ n = omega (arith, l, g.upto) in rw e at (g.kept o w)

  -- some text was answered, so the offset is behind the first
  pub going_on : 1 ≤ j → a < a'
  going_on l = omega (arith, g.stands, stands_on a lengths j)
