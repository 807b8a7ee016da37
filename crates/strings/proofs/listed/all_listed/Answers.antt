use Prim.Native.Nat.{ℕ}
use mathlib.Core.Path.{refl}
use borrow.Author.Rules.{rules}
use borrow.Author.Tests.{tests}
use lib.ListN.{length}
use Rattle.strings.specs.inner.Ahead.{BucketIndexed}
use Rattle.strings.specs.inner.Lent.{lent_table}
use Rattle.strings.proofs.Every.{every}
use Rattle.strings.proofs.listed.all_listed.Goals as goal

pub returns : goal.returns
returns c = λ z.
    let a = c.args in
    every _ _ c.all.result (length a.table.now.buckets.now) (λ (x : ℕ). BucketIndexed (lent_table a.table.now) x) refl c.all.ensures.ran
    (λ x q k. search (rules, tests)) z
