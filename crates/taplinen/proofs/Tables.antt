-- What is told of texts in a table is told of them in the same table. Assumes nothing.
use mathlib.Core.Path.{◌≡◌, ap, ◌∙◌}
use mathlib.Core.List.{List}
use Prim.Native.Nat.{ℕ}
use Rattle.verdict.specs.Verdict.{Verdict}
use Rattle.layout.specs.Table.{Table}
use Rattle.lookup.specs.Kinds.{told_in}
use Rattle.lookup.specs.declared.Kind.{Kind}
use Rattle.lookup.specs.declared.Lookup.{Lookup}
use Rattle.batch.specs.Places.{answers_after}

pub told_same : {t u : Table} (k : Kind) (x : List ℕ) {r : Lookup} → t ≡ u → r ≡ told_in k t x → r ≡ told_in k u x
told_same k x e h = h ∙ ap (λ (y : Table). told_in k y x) e

pub answers_same : {t u : Table} (k : Kind) (texts d : List ℕ) (w : Verdict) {l : List ℕ} → t ≡ u → l ≡ answers_after (told_in k t) texts d w
    → l ≡ answers_after (told_in k u) texts d w
answers_same k texts d w e h = h ∙ ap (λ (y : Table). answers_after (told_in k y) texts d w) e
